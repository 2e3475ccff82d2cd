-- No second answer fits: of any two results that meet a public function's contract for the same arguments, and what they leave in lent memory, the one is the
-- other. Written and held against the source by .ci/promises.
use Rattle.lent.specs.OneAnswer.{OneAnswer}
use Rattle.format.proofs.tag_kind as tag_kind
use Rattle.format.proofs.attribute_kind as attribute_kind
use Rattle.format.proofs.lookup as lookup
use Rattle.format.proofs.fund_type as fund_type
use Rattle.format.proofs.form_kind as form_kind
use Rattle.format.proofs.modifier as modifier
use Rattle.format.proofs.location_op as location_op
use Rattle.format.proofs.subscript_format as subscript_format
use Rattle.format.proofs.refusal as refusal
use Rattle.format.proofs.settings as settings
use Rattle.format.proofs.presets as presets

-- `tag_kind::is_tag`
pub only-is-tag : OneAnswer tag_kind.is_tag.Kinds.ps tag_kind.is_tag.Kinds.r tag_kind.is_tag.Reads.Post
only-is-tag κs a z z' e e' p q = cc

-- `attribute_kind::is_named`
pub only-is-named : OneAnswer attribute_kind.is_named.Kinds.ps attribute_kind.is_named.Kinds.r attribute_kind.is_named.Reads.Post
only-is-named κs a z z' e e' p q = cc

-- `attribute_kind::is_known`
pub only-is-known : OneAnswer attribute_kind.is_known.Kinds.ps attribute_kind.is_known.Kinds.r attribute_kind.is_known.Reads.Post
only-is-known κs a z z' e e' p q = cc

-- `lookup::on_list`
pub only-on-list : OneAnswer lookup.on_list.Kinds.ps lookup.on_list.Kinds.r lookup.on_list.Reads.Post
only-on-list κs a z z' e e' p q = cc

-- `fund_type::order_of`
pub only-order-of : OneAnswer fund_type.order_of.Kinds.ps fund_type.order_of.Kinds.r fund_type.order_of.Reads.Post
only-order-of κs a z z' e e' p q = cc

-- `form_kind::form_of`
pub only-form-of : OneAnswer form_kind.form_of.Kinds.ps form_kind.form_of.Kinds.r form_kind.form_of.Reads.Post
only-form-of κs a z z' e e' p q = cc

-- `fund_type::try_from`
pub only-try-from : OneAnswer fund_type.try_from.Kinds.ps fund_type.try_from.Kinds.r fund_type.try_from.Reads.Post
only-try-from κs a z z' e e' p q = cc

-- `fund_type::parse_int`
pub only-parse-int : OneAnswer fund_type.parse_int.Kinds.ps fund_type.parse_int.Kinds.r fund_type.parse_int.Reads.Post
only-parse-int κs a z z' e e' p q = cc

-- `modifier::parse_int`
pub only-modifier-parse-int : OneAnswer modifier.parse_int.Kinds.ps modifier.parse_int.Kinds.r modifier.parse_int.Reads.Post
only-modifier-parse-int κs a z z' e e' p q = cc

-- `location_op::location_op`
pub only-location-op : OneAnswer location_op.location_op.Kinds.ps location_op.location_op.Kinds.r location_op.location_op.Reads.Post
only-location-op κs a z z' e e' p q = cc

-- `subscript_format::subscript_format`
pub only-subscript-format : OneAnswer subscript_format.subscript_format.Kinds.ps subscript_format.subscript_format.Kinds.r subscript_format.subscript_format.Reads.Post
only-subscript-format κs a z z' e e' p q = cc

-- `form_kind::is_form`
pub only-is-form : OneAnswer form_kind.is_form.Kinds.ps form_kind.is_form.Kinds.r form_kind.is_form.Reads.Post
only-is-form κs a z z' e e' p q = cc

-- `refusal::reason_of`
pub only-reason-of : OneAnswer refusal.reason_of.Kinds.ps refusal.reason_of.Kinds.r refusal.reason_of.Reads.Post
only-reason-of κs a z z' e e' p q = cc

-- `refusal::number_of`
pub only-number-of : OneAnswer refusal.number_of.Kinds.ps refusal.number_of.Kinds.r refusal.number_of.Reads.Post
only-number-of κs a z z' e e' p q = cc

-- `settings::settings_hold`
pub only-settings-hold : OneAnswer settings.settings_hold.Kinds.ps settings.settings_hold.Kinds.r settings.settings_hold.Reads.Post
only-settings-hold κs a z z' e e' p q = cc

-- `presets::mw_vendors`
pub only-mw-vendors : OneAnswer presets.mw_vendors.Kinds.ps presets.mw_vendors.Kinds.r presets.mw_vendors.Reads.Post
only-mw-vendors κs a z z' e e' p q = cc

-- `presets::mw_roles`
pub only-mw-roles : OneAnswer presets.mw_roles.Kinds.ps presets.mw_roles.Kinds.r presets.mw_roles.Reads.Post
only-mw-roles κs a z z' e e' p q = cc

-- `presets::no_roles`
pub only-no-roles : OneAnswer presets.no_roles.Kinds.ps presets.no_roles.Kinds.r presets.no_roles.Reads.Post
only-no-roles κs a z z' e e' p q = cc

-- `presets::rust_sizes`
pub only-rust-sizes : OneAnswer presets.rust_sizes.Kinds.ps presets.rust_sizes.Kinds.r presets.rust_sizes.Reads.Post
only-rust-sizes κs a z z' e e' p q = cc
