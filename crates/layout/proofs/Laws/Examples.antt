-- Size and layout of document 01's input A, computed.
use mathlib.Core.Path.{◌≡◌, refl}
use mathlib.Core.List.{[], ◌∷◌}
use Rattle.numbers.specs.Value.{there, read_at, value_of}
use Rattle.format.specs.AttributeKind.{attribute_kinds}
use Rattle.format.specs.FormKind.{form_of}
use Rattle.format.specs.FundType.{fund_types, parse_int, fund_type_of}
use Rattle.format.specs.InputA.{input_a, settings_a}
use Rattle.format.specs.Known.{known}
use Rattle.format.specs.Lookup.{is_on, lookup, index_of}
use Rattle.format.specs.Said.{gives, must, ◌>>=◌, ◌>>◌, placed, in_room, fills_room}
use Rattle.format.specs.Settings.{settings_hold, vendors_hold, roles_hold, role_holds, role_form, roles_differ, plays}
use Rattle.format.specs.TagKind.{tags}
use Rattle.attributes.specs.End.{value_end, fixed_end, block_end}
use Rattle.attributes.specs.Parts.{block_at, part_at}
use Rattle.blocks.specs.Location.{shape_operand, operand_at}
use Rattle.blocks.specs.Modifiers.{process_modifiers, all_known, any_pointer}
use Rattle.blocks.specs.Types.{process_type, fund_type, fundamental, number_in, known_number, modified}
use Rattle.tables.specs.Find.{row_of_key, row_from}
use Rattle.tables.specs.Holds.{table_holds, fitting, rows_hold, row_holds, run_holds, attr_holds}
use Rattle.tables.specs.Keyed.{row_of, found_row}
use Rattle.tables.specs.Row.{row_at, attr_at, endian_of, erased_row, ends_of}
use Rattle.tables.specs.Table.{table}
use Rattle.tables.specs.Tests.{test_table}
use Rattle.tables.specs.Unit.{unit_of, units_hold}
use Rattle.links.specs.Attribute.{reference_of, reference_by, attribute_of, attr_from, wants}
use Rattle.links.specs.Links.{child_walk, next_row, next_from, sibling_row, sibling_by, row_number, non_null, null_row}
use Rattle.links.specs.Typed.{word_at}
use Rattle.links.specs.Walk.{walk_from, stops, meets}
use Rattle.records.specs.Fields.{type_of, type_by, last_of, last_from, is_sought, offset_field, word_of, word_by, word_in, name_of, name_by, needed, location_block}
use Rattle.records.specs.Front.{front_of, head_of, kind_fault, kind_taken, childless_fault}
use Rattle.records.specs.Member.{member_at, member_fields, bits_by}
use Rattle.records.specs.MemberWords.{name_place, name_length}
use Rattle.records.specs.Scan.{faults_from, run_of, fault_at, attribute_fault, attribute_at, content_fault, is_type, fault_of, location_of}
use Rattle.records.specs.Taken.{takes, taken_by}
use Rattle.records.specs.Unions.{member_then}
use Rattle.sizes.specs.Size.{size_of_key, entry_size, row_size, shape_size, shape_of, members_of, member_rows_by, member_rows_from, member_child_then, size_or_ends, is_structure, member_size, size_or, type_size, type_size_by, kind_size, fundamental_size}
use Rattle.layout.specs.Examples.{rows_a, attrs_a, sizes_a, counts_a}
use Rattle.layout.specs.Layout.{layout_of_key, row_lay, laid_from, end_or, laid_member, has_byte_size, own_size, size_or_largest, layout_into, laid_words, layout_of}

-- 4 bytes; one member at 0 of 4 bytes without a name, and the word behind its four as it was
pub input-a : (size_of_key (table input_a settings_a [] sizes_a rows_a attrs_a counts_a) 0 ≡ gives 4)
    × (layout_of_key (table input_a settings_a [] sizes_a rows_a attrs_a counts_a) 0 (7 ∷ 7 ∷ 7 ∷ 7 ∷ 7 ∷ [])
    ≡ record { answer = gives (record { row = 0; size = 4; members = 1 }); room = 0 ∷ 4 ∷ 0 ∷ 0 ∷ 7 ∷ [] })
unfolding size_of_key entry_size settings_hold vendors_hold roles_hold role_holds role_form roles_differ fund_types table_holds fitting rows_hold row_holds units_hold unit_of row_at is_on tags run_holds attr_holds known attribute_kinds attr_at value_end form_of lookup fixed_end there block_end read_at value_of endian_of row_of_key row_from row_size shape_size shape_of members_of member_rows_by child_walk walk_from stops next_row next_from erased_row sibling_row sibling_by reference_of reference_by attribute_of attr_from wants row_number meets member_rows_from non_null null_row member_child_then member_then member_at front_of head_of kind_fault kind_taken faults_from run_of fault_at attribute_fault takes taken_by attribute_at plays content_fault is_type process_type fund_type fundamental number_in known_number parse_int fund_type_of ends_of modified must ◌>>=◌ ◌>>◌ process_modifiers all_known shape_operand block_at part_at childless_fault member_fields type_of type_by last_of last_from is_sought offset_field bits_by word_of word_by size_or_ends word_in word_at layout_of_key row_lay is_structure laid_from end_or laid_member member_size size_or has_byte_size own_size size_or_largest layout_into laid_words name_place name_length name_of name_by type_size type_size_by kind_size fundamental_size index_of any_pointer operand_at placed in_room fills_room test_table row_of found_row needed location_block fault_of location_of layout_of
input-a = (refl, refl)
