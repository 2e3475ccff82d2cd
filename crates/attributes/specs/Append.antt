-- Places raised by so many bytes that were put in front.
use Rattle.std.specs.Prelude.{Result, Ok, Err, ℕ, ◌+◌}
use Rattle.attributes.specs.declared.value.Unread.TheVariants as unread
use Rattle.attributes.specs.declared.value.Unread.{Unread}
use Rattle.attributes.specs.declared.read.Attribute.{Attribute}

-- every place k further on
unfoldable pub shift_unread : ℕ → Unread → Unread
shift_unread k (unread.Short field) = unread.Short (k + field)
shift_unread k (unread.Unknown field) = unread.Unknown (k + field)

-- the same of an end
unfoldable pub shift_end : ℕ → Result ℕ Unread → Result ℕ Unread
shift_end k (Ok next) = Ok (k + next)
shift_end k (Err why) = Err (shift_unread k why)

-- the same of an attribute
unfoldable pub shift_attribute : ℕ → Result Attribute Unread → Result Attribute Unread
shift_attribute k (Ok a) = Ok (record { number = a.number; value = k + a.value; next = k + a.next })
shift_attribute k (Err why) = Err (shift_unread k why)
