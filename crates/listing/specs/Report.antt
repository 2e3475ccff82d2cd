-- What the listing program prints for a section: document 01, 'Modules, leaves first'.
use Rattle.std.specs.Prelude.{ℕ, ◌*◌, Bool, false, cond, List, [], replicate}
use Rattle.tables.specs.Table.{table}
use Rattle.tables.specs.Row.{row_width, attr_width}
use Rattle.lent.specs.Outcome.{Outcome, Outcomes}
use Rattle.numbers.specs.declared.Endian.TheVariants.{Big}
use Rattle.format.specs.Refusal.{number_of}
use Rattle.format.specs.Said.{Said, gives, refuses}
use Rattle.format.specs.declared.refusal.Reason.TheVariants as reason
use Rattle.format.specs.declared.settings.Settings.{Settings}
use Rattle.format.specs.declared.settings.Producer.TheVariants.{Other}
use Rattle.entries.specs.Section.{read_debug_section}
use Rattle.tables.specs.declared.row.Counts.{Counts}
use Rattle.tree.specs.Tree.{place_width, list_tree}
use Rattle.listing.specs.Text.{refusal_text, listing_text}

-- big-endian, erased entries out, no vendor numbers
abbrev pub listing_settings : Settings
listing_settings =
    record { endian = Big; erased = false; producer = Other; roles = record { global_ref = 0; mangled = 0; overlay_name = 0; overlay_id = 0 } }

-- the sizes of the 28 fundamental types
unfoldable pub listing_sizes : List ℕ
listing_sizes = replicate 28 4

-- room for 1,024 rows and 4,096 attributes
unfoldable pub row_room : List ℕ
row_room = replicate (1024 * row_width) 0

-- and for attributes
unfoldable pub attr_room : List ℕ
attr_room = replicate (4096 * attr_width) 0

-- and for their places in the tree
unfoldable pub place_room : List ℕ
place_room = replicate (1024 * place_width) 0

-- a section read into lent tables
abbrev pub listing_read : List ℕ → List ℕ → List ℕ → Outcomes (Said Counts) ℕ ℕ
listing_read s rows attrs = read_debug_section listing_settings [] listing_sizes s rows attrs

-- the tree of such tables, into lent room
abbrev pub listing_tree : List ℕ → List ℕ → List ℕ → Counts → List ℕ → Outcome (Said ℕ) ℕ
listing_tree s rows attrs counts room = list_tree (table s listing_settings [] listing_sizes rows attrs counts) room

-- the text of an answer: of what it gives, or of its refusal
unfoldable pub answer_text : {A : Type 0} → (A → List ℕ) → Said A → List ℕ
answer_text text (gives x) = text x
answer_text text (refuses number place counts) = refusal_text number place

-- the text for tables that were read; no 8 comes about, since no more than 1,024 rows are
unfoldable pub tree_text : List ℕ → List ℕ → List ℕ → Counts → List ℕ
tree_text s rows attrs counts =
    answer_text (listing_text rows (listing_tree s rows attrs counts place_room).room) (listing_tree s rows attrs counts place_room).answer

-- the text for a section
unfoldable pub report_text : List ℕ → List ℕ
report_text s =
    answer_text (tree_text s (listing_read s row_room attr_room).first (listing_read s row_room attr_room).second) (listing_read s row_room attr_room).answer

-- refusal 8, at 0
abbrev pub room_text : List ℕ
room_text = refusal_text (number_of reason.Room) 0

-- the text for an input, of which s is all or, where it is longer, the beginning
unfoldable pub input_text : Bool → List ℕ → List ℕ
input_text longer s = cond longer room_text (report_text s)
