-- How the code comes to `Read`: where a value ends, asked by its attribute's number. The table test asks so too.
use Rattle.std.specs.Prelude.{Result, Ok, Err, Option, Some, None, ℕ, cond, List}
use Rattle.attributes.specs.declared.value.Unread.TheVariants as unread
use Rattle.attributes.specs.declared.value.Unread.{Unread}
use Rattle.numbers.specs.declared.Endian.{Endian}
use Rattle.format.specs.Known.{known}
use Rattle.format.specs.FormKind.{form_of}
use Rattle.attributes.specs.End.{value_end}

-- the end of the value that stands at `value`, of the attribute number n; of one that is not known that place
unfoldable pub known_end : List ℕ → Endian → List ℕ → ℕ → ℕ → Result ℕ Unread
known_end vendors e s value n = cond (known vendors n) (value_end (form_of n) e s value) (Err (unread.Unknown value))

-- where it ends, if it is told
unfoldable pub end_told : Result ℕ Unread → Option ℕ
end_told (Ok next) = Some next
end_told (Err why) = None
