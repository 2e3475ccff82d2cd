-- The output of every example, computed from its bytes.
use mathlib.Core.Path.{◌≡◌, refl}
use mathlib.Core.List.{map}
use Rattle.numbers.specs.Value.{value_of, there, read_at}
use Rattle.format.specs.Lookup.{is_on, index_of, lookup}
use Rattle.format.specs.TagKind.{tags}
use Rattle.format.specs.AttributeKind.{used, also_known, attribute_kinds}
use Rattle.format.specs.Known.{known}
use Rattle.format.specs.FormKind.{forms, form_of}
use Rattle.format.specs.FundType.{fund_types}
use Rattle.format.specs.Refusal.{number_of}
use Rattle.format.specs.Said.{must, ◌>>=◌, ◌>>◌, placed, in_room, fills_room, in_rooms, fills_rooms}
use Rattle.format.specs.Settings.{plays, vendor_number, vendors_hold, role_holds, role_form, roles_differ, roles_hold, settings_hold}
use Rattle.attributes.specs.Text.{zero_from}
use Rattle.attributes.specs.End.{fixed_end, block_end, text_end, value_end}
use Rattle.attributes.specs.Read.{ending, numbered, read_attribute}
use Rattle.tables.specs.Row.{row_words, attr_words, rows_words, attrs_words, row_at, attr_at, erased_row, endian_of}
use Rattle.tables.specs.Unit.{unit_of, in_unit, units_from, units_hold}
use Rattle.tables.specs.Find.{row_from, row_of_key}
use Rattle.tables.specs.Holds.{fitting, is_at, attr_holds, run_holds, row_holds, rows_hold, table_holds}
use Rattle.tables.specs.Tests.{test_table}
use Rattle.entries.specs.Head.{null_end, tag_head, size_head, head_at}
use Rattle.entries.specs.Run.{run_ends, read_on, read_run}
use Rattle.entries.specs.Entry.{flip, little_flag, flag_of, flags_of, root_kind, attributes, root_endian, entry_from, read_entry}
use Rattle.entries.specs.Walk.{entries_then, whole_entry, entries_from, read_tags}
use Rattle.entries.specs.Section.{whole_walk, section_entries, read_debug_section}
use Rattle.links.specs.Attribute.{wants, attr_from, attribute_of, reference_by, reference_of}
use Rattle.tree.specs.Pick.{count_below, nearest_below, first_from}
use Rattle.tree.specs.Reach.{later_row, reach_by, reach_end}
use Rattle.tree.specs.Nest.{lies, depth, parent, crosses, faulty, deep, first_fault, first_deep}
use Rattle.tree.specs.Tree.{places_from, first_erased, tree_tests, listing_of, list_tree}
use Rattle.digits.specs.Digits.{glyph, digits, width_from, decimal_width}
use Rattle.listing.specs.Text.{header_text, entry_text, unit_text, row_text, refusal_text, rows_text}
use Rattle.listing.specs.Report.{listing_sizes, row_room, attr_room, place_room, answer_text, tree_text, report_text, input_text}
use Rattle.listing.specs.Examples.{examples}

pub examples-hold : map (λ e. input_text e.longer e.bytes) examples ≡ map (λ e. e.text) examples
unfolding must ◌>>=◌ ◌>>◌ placed in_room fills_room in_rooms fills_rooms examples number_of fund_types value_of there read_at is_on index_of lookup tags used also_known attribute_kinds known forms form_of vendor_number vendors_hold role_holds role_form roles_differ roles_hold settings_hold zero_from fixed_end block_end text_end value_end ending numbered read_attribute null_end tag_head size_head head_at plays run_ends read_on read_run flip little_flag flag_of flags_of root_kind attributes root_endian entry_from read_entry entries_then whole_entry entries_from read_tags whole_walk fitting section_entries read_debug_section glyph digits width_from decimal_width header_text entry_text unit_text row_text rows_text refusal_text row_words attr_words rows_words attrs_words row_at attr_at unit_of in_unit units_from units_hold erased_row endian_of row_from row_of_key is_at attr_holds run_holds row_holds rows_hold table_holds test_table wants attr_from attribute_of reference_by reference_of count_below nearest_below first_from later_row reach_by reach_end lies depth parent crosses faulty deep first_fault first_deep places_from first_erased tree_tests listing_of list_tree listing_sizes row_room attr_room place_room answer_text tree_text report_text input_text
examples-hold = refl
