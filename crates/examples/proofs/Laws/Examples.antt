-- Every starred example of document 01 holds: each answer is computed from the definitions.
use Rattle.std.proofs.Common.{◌≡◌, map, refl}
use Rattle.numbers.specs.Value.{value_of, signed_below, signed_of, there, read_at}
use Rattle.format.specs.Lookup.{is_on, index_of, lookup}
use Rattle.format.specs.TagKind.{tags}
use Rattle.format.specs.AttributeKind.{used, also_known, attribute_kinds}
use Rattle.format.specs.Settings.{plays, vendors_hold, role_holds, role_form, roles_differ, roles_hold, settings_hold, vendor_number}
use Rattle.format.specs.Known.{known}
use Rattle.format.specs.FormKind.{forms, form_of, form_number, is_form}
use Rattle.format.specs.FundType.{fund_types, fund_type_of, parse_int}
use Rattle.format.specs.Modifier.{modifiers, modifier_of}
use Rattle.format.specs.SubscriptFormat.{subscript_formats, subscript_format_of}
use Rattle.format.specs.Refusal.{number_of}
use Rattle.format.specs.Said.{must, ◌>>=◌, ◌>>◌, placed, in_room, in_rooms, fills_room, fills_rooms}
use Rattle.attributes.specs.Text.{zero_from}
use Rattle.attributes.specs.End.{fixed_end, block_end, text_end, value_end}
use Rattle.attributes.specs.Read.{ending, numbered, read_attribute}
use Rattle.attributes.specs.Parts.{part_at, block_at, text_at, part_lies, text_lies, block_lies}
use Rattle.blocks.specs.Modifiers.{is_known, is_pointer, all_known, any_pointer, process_modifiers}
use Rattle.blocks.specs.Types.{number_in, known_number, modified, fundamental, fund_type, last_bytes, mod_fund_type, process_type}
use Rattle.blocks.specs.Subscript.{index_at, one_more, const_bound, element_as, element_type_at, subscript_as, next_subscript}
use Rattle.blocks.specs.Subscripts.{dimension_words, element_or, at_end, before, raised, step, subscripts_from, whole_block, process_array_subscript_data}
use Rattle.tables.specs.Row.{attr_at, row_words, attr_words, rows_words, attrs_words, row_at, erased_row, ends_of, endian_of}
use Rattle.links.specs.Typed.{word_at, spot_found, spot_at, spot_in, place_of_key, word_of_place, value_of_key, lies_at, extent_of_place, extent_of_key, part_of}
use Rattle.records.specs.Taken.{taken_by, role_taken, takes, special}
use Rattle.records.specs.Scan.{attribute_at, is_type, fault_of, content_fault, attribute_fault, fault_at, number_at, run_of}
use Rattle.records.specs.Fields.{is_sought, last_from, word_in, word_by, last_of, name_by, name_of, text_of, word_of, needed}
use Rattle.records.specs.Elements.{list_width, value_at, named_from, name_from, valued, element_then, elements_from, elements_in, values_of, names_of}
use Rattle.records.specs.Elements as element
use Rattle.records.specs.Enumeration.{size_before, list_at, lists_from, is_gcc, in_order, enumeration_sized, row_lists, enumeration_at, enumeration_into, process_enumeration_tag}
use Rattle.entries.specs.Head.{null_end, tag_head, size_head, head_at}
use Rattle.entries.specs.Run.{run_ends, read_on, read_run}
use Rattle.entries.specs.Entry.{flip, little_flag, flag_of, flags_of, root_kind, attributes, root_endian, entry_from, read_entry}
use Rattle.entries.specs.Walk.{entries_then, whole_entry, entries_from, read_tags}
use Rattle.entries.specs.Section.{whole_walk, section_entries, read_debug_section}
use Rattle.tables.specs.Holds.{fitting, table_holds, rows_hold, run_holds, is_at, attr_holds, row_holds}
use Rattle.tables.specs.Tests.{test_table}
use Rattle.tables.specs.Keyed.{found_row, row_of}
use Rattle.tables.specs.Find.{row_of_key, row_from}
use Rattle.tables.specs.Unit.{unit_of, in_unit, units_from, units_hold}
use Rattle.links.specs.Attribute.{wants, attr_from, attribute_of, reference_by, reference_of}
use Rattle.links.specs.Links.{next_from, next_row, row_number, sibling_by, sibling_row, child_walk, null_row, non_null}
use Rattle.links.specs.Walk.{meets, stops, walk_from}
use Rattle.records.specs.Front.{kind_taken, kind_fault, childless_fault, is_mwcc}
use Rattle.examples.specs.Examples.{answer, examples}

-- the definitions answer what document 01 says, in every row
pub examples-hold : map (λ e. answer e.asked) examples ≡ map (λ e. e.said) examples
unfolding answer examples number_of parse_int fund_type_of fund_types modifier_of modifiers value_of there read_at is_on index_of lookup tags used also_known attribute_kinds known forms form_of zero_from fixed_end block_end text_end value_end ending numbered read_attribute text_at null_end tag_head size_head head_at plays run_ends read_on read_run flip little_flag flag_of flags_of root_kind attributes root_endian entry_from read_entry entries_then whole_entry entries_from read_tags whole_walk ◌>>=◌ placed subscript_formats subscript_format_of part_at block_at is_known is_pointer all_known any_pointer process_modifiers must ◌>>◌ modified number_in known_number fundamental fund_type last_bytes mod_fund_type process_type index_at one_more const_bound element_as element_type_at subscript_as next_subscript dimension_words element_or at_end before raised step subscripts_from whole_block word_at taken_by role_taken takes special attribute_at attr_at is_type fault_of content_fault attribute_fault fault_at number_at form_number is_form is_sought last_from word_in word_by list_width value_at named_from name_from valued element.element_at element_then elements_from elements_in signed_of signed_below size_before list_at lists_from vendors_hold role_holds role_form roles_differ roles_hold settings_hold in_room in_rooms fills_room fills_rooms row_words attr_words rows_words attrs_words row_at unit_of in_unit units_from units_hold erased_row ends_of fitting table_holds rows_hold run_holds test_table found_row row_of row_of_key wants attr_from attribute_of reference_by reference_of next_from next_row row_number sibling_by sibling_row child_walk null_row non_null meets stops walk_from spot_found spot_at spot_in place_of_key word_of_place value_of_key lies_at extent_of_place extent_of_key part_of part_lies text_lies block_lies run_of kind_taken kind_fault childless_fault last_of name_by name_of text_of word_of needed values_of names_of is_gcc in_order enumeration_sized row_lists enumeration_at enumeration_into process_enumeration_tag process_array_subscript_data section_entries read_debug_section is_at attr_holds row_holds row_from endian_of is_mwcc vendor_number
examples-hold = refl
