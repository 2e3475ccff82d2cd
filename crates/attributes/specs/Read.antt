-- What stands at an attribute's place (rule 5): a 2-byte number in data endianness, then a value of the number's form.
use Rattle.std.specs.Prelude.{Result, Ok, Err, ℕ, ◌+◌, cond, List}
use Rattle.attributes.specs.declared.value.Unread.TheVariants as unread
use Rattle.attributes.specs.declared.value.Unread.{Unread}
use Rattle.numbers.specs.Value.{read_at}
use Rattle.numbers.specs.declared.Endian.{Endian}
use Rattle.format.specs.Known.{known}
use Rattle.format.specs.FormKind.{form_of}
use Rattle.attributes.specs.End.{value_end}
use Rattle.attributes.specs.declared.read.Attribute.{Attribute}

-- an attribute whose number is n and whose value stands at `value` and ends so
unfoldable pub ending : ℕ → ℕ → Result ℕ Unread → Result Attribute Unread
ending n value (Ok next) = Ok (record { number = n; value = value; next = next })
ending n value (Err why) = Err why

-- the number n, found at `at`: its value follows; a number that is not known is told first
unfoldable pub numbered : List ℕ → Endian → List ℕ → ℕ → ℕ → Result Attribute Unread
numbered vendors e s at n = cond (known vendors n) (ending n (at + 2) (value_end (form_of n) e s (at + 2))) (Err (unread.Unknown at))

-- number, place of the value, where the next field begins; or short, or an unknown number, each with its field's first byte
unfoldable pub read_attribute : List ℕ → Endian → List ℕ → ℕ → Result Attribute Unread
read_attribute vendors e s at = read_at (numbered vendors e s at) (Err (unread.Short at)) e 2 s at
