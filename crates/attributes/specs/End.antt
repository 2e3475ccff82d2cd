-- Where a value ends, by its form (rule 5): at the place after it, or short. Short says at which field: the field's first byte.
use Rattle.std.specs.Prelude.{Result, Ok, Err, ℕ, suc, ◌+◌, cond, List, length, ltb}
use Rattle.attributes.specs.declared.value.Unread.TheVariants as unread
use Rattle.attributes.specs.declared.value.Unread.{Unread}
use Rattle.numbers.specs.Value.{there, read_at}
use Rattle.numbers.specs.declared.Endian.{Endian}
use Rattle.format.specs.declared.form_kind.FormKind.{FormKind}
use Rattle.format.specs.declared.form_kind.FormKind.TheVariants.{Addr, Ref, Block2, Block4, Data2, Data4, Data8, String, Undefined}
use Rattle.attributes.specs.Text.{zero_from}

-- w bytes
unfoldable pub fixed_end : List ℕ → ℕ → ℕ → Result ℕ Unread
fixed_end s at w = cond (there s at w) (Ok (at + w)) (Err (unread.Short at))

-- a length of w bytes, and as many bytes as it says: two fields
unfoldable pub block_end : Endian → ℕ → List ℕ → ℕ → Result ℕ Unread
block_end e w s at = read_at (λ n. fixed_end s (at + w) n) (Err (unread.Short at)) e w s at

-- bytes up to a zero, and the zero
unfoldable pub text_end : List ℕ → ℕ → Result ℕ Unread
text_end s at = cond (ltb (zero_from s at) (length s)) (Ok (suc (zero_from s at))) (Err (unread.Short at))

-- by form; e is the data endianness. A number without a form has no value that could be read: no known number is one
unfoldable pub value_end : FormKind → Endian → List ℕ → ℕ → Result ℕ Unread
value_end Addr e s at = fixed_end s at 4
value_end Ref e s at = fixed_end s at 4
value_end Block2 e s at = block_end e 2 s at
value_end Block4 e s at = block_end e 4 s at
value_end Data2 e s at = fixed_end s at 2
value_end Data4 e s at = fixed_end s at 4
value_end Data8 e s at = fixed_end s at 8
value_end String e s at = text_end s at
value_end Undefined e s at = Err (unread.Short at)
