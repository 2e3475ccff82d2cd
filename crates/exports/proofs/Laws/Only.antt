-- No second answer fits: of any two results that meet a public function's contract for the same arguments, and what they leave in lent memory, the one is the
-- other. Written and held against the source by .ci/promises.
use Rattle.lent.specs.OneAnswer.{OneAnswer, OneRoom}
use Rattle.exports.proofs.reading as reading
use Rattle.exports.proofs.size as size
use Rattle.exports.proofs.block as block
use Rattle.exports.proofs.listing as listing
use Rattle.exports.proofs.one_layout as one_layout
use Rattle.exports.proofs.all_layouts as all_layouts

-- `reading::capbeacon_count_debug_section`
pub only-capbeacon-count-debug-section : OneAnswer reading.capbeacon_count_debug_section.Kinds.ps reading.capbeacon_count_debug_section.Kinds.r reading.capbeacon_count_debug_section.Reads.Post
only-capbeacon-count-debug-section κs a z z' e e' p q = cc

pub only-capbeacon-count-debug-section-place : OneRoom reading.capbeacon_count_debug_section.Kinds.ps reading.capbeacon_count_debug_section.Kinds.r (λ κs e. e.1.1.1.1.1.1.1.1.1.1.0.now) reading.capbeacon_count_debug_section.Reads.Post
only-capbeacon-count-debug-section-place κs a z z' e e' p q = cc

pub only-capbeacon-count-debug-section-row-count : OneRoom reading.capbeacon_count_debug_section.Kinds.ps reading.capbeacon_count_debug_section.Kinds.r (λ κs e. e.1.1.1.1.1.1.1.1.1.1.1.0.now) reading.capbeacon_count_debug_section.Reads.Post
only-capbeacon-count-debug-section-row-count κs a z z' e e' p q = cc

pub only-capbeacon-count-debug-section-attr-count : OneRoom reading.capbeacon_count_debug_section.Kinds.ps reading.capbeacon_count_debug_section.Kinds.r (λ κs e. e.1.1.1.1.1.1.1.1.1.1.1.1.0.now) reading.capbeacon_count_debug_section.Reads.Post
only-capbeacon-count-debug-section-attr-count κs a z z' e e' p q = cc

pub only-capbeacon-count-debug-section-byte : OneRoom reading.capbeacon_count_debug_section.Kinds.ps reading.capbeacon_count_debug_section.Kinds.r (λ κs e. e.1.1.1.1.1.1.1.1.1.1.1.1.1.0.now) reading.capbeacon_count_debug_section.Reads.Post
only-capbeacon-count-debug-section-byte κs a z z' e e' p q = cc

-- `reading::capbeacon_read_debug_section`
pub only-capbeacon-read-debug-section : OneAnswer reading.capbeacon_read_debug_section.Kinds.ps reading.capbeacon_read_debug_section.Kinds.r reading.capbeacon_read_debug_section.Reads.Post
only-capbeacon-read-debug-section κs a z z' e e' p q = cc

pub only-capbeacon-read-debug-section-rows : OneRoom reading.capbeacon_read_debug_section.Kinds.ps reading.capbeacon_read_debug_section.Kinds.r (λ κs e. e.1.1.1.1.1.1.1.1.1.1.0.now) reading.capbeacon_read_debug_section.Reads.Post
only-capbeacon-read-debug-section-rows κs a z z' e e' p q = cc

pub only-capbeacon-read-debug-section-attrs : OneRoom reading.capbeacon_read_debug_section.Kinds.ps reading.capbeacon_read_debug_section.Kinds.r (λ κs e. e.1.1.1.1.1.1.1.1.1.1.1.0.now) reading.capbeacon_read_debug_section.Reads.Post
only-capbeacon-read-debug-section-attrs κs a z z' e e' p q = cc

pub only-capbeacon-read-debug-section-place : OneRoom reading.capbeacon_read_debug_section.Kinds.ps reading.capbeacon_read_debug_section.Kinds.r (λ κs e. e.1.1.1.1.1.1.1.1.1.1.1.1.0.now) reading.capbeacon_read_debug_section.Reads.Post
only-capbeacon-read-debug-section-place κs a z z' e e' p q = cc

pub only-capbeacon-read-debug-section-row-count : OneRoom reading.capbeacon_read_debug_section.Kinds.ps reading.capbeacon_read_debug_section.Kinds.r (λ κs e. e.1.1.1.1.1.1.1.1.1.1.1.1.1.0.now) reading.capbeacon_read_debug_section.Reads.Post
only-capbeacon-read-debug-section-row-count κs a z z' e e' p q = cc

pub only-capbeacon-read-debug-section-attr-count : OneRoom reading.capbeacon_read_debug_section.Kinds.ps reading.capbeacon_read_debug_section.Kinds.r (λ κs e. e.1.1.1.1.1.1.1.1.1.1.1.1.1.1.0.now) reading.capbeacon_read_debug_section.Reads.Post
only-capbeacon-read-debug-section-attr-count κs a z z' e e' p q = cc

pub only-capbeacon-read-debug-section-byte : OneRoom reading.capbeacon_read_debug_section.Kinds.ps reading.capbeacon_read_debug_section.Kinds.r (λ κs e. e.1.1.1.1.1.1.1.1.1.1.1.1.1.1.1.0.now) reading.capbeacon_read_debug_section.Reads.Post
only-capbeacon-read-debug-section-byte κs a z z' e e' p q = cc

-- `size::capbeacon_size_of_key`
pub only-capbeacon-size-of-key : OneAnswer size.capbeacon_size_of_key.Kinds.ps size.capbeacon_size_of_key.Kinds.r size.capbeacon_size_of_key.Reads.Post
only-capbeacon-size-of-key κs a z z' e e' p q = cc

pub only-capbeacon-size-of-key-place : OneRoom size.capbeacon_size_of_key.Kinds.ps size.capbeacon_size_of_key.Kinds.r (λ κs e. e.1.1.1.1.1.1.1.1.1.1.1.1.1.1.1.0.now) size.capbeacon_size_of_key.Reads.Post
only-capbeacon-size-of-key-place κs a z z' e e' p q = cc

pub only-capbeacon-size-of-key-size : OneRoom size.capbeacon_size_of_key.Kinds.ps size.capbeacon_size_of_key.Kinds.r (λ κs e. e.1.1.1.1.1.1.1.1.1.1.1.1.1.1.1.1.0.now) size.capbeacon_size_of_key.Reads.Post
only-capbeacon-size-of-key-size κs a z z' e e' p q = cc

-- `block::capbeacon_process_offset`
pub only-capbeacon-process-offset : OneAnswer block.capbeacon_process_offset.Kinds.ps block.capbeacon_process_offset.Kinds.r block.capbeacon_process_offset.Reads.Post
only-capbeacon-process-offset κs a z z' e e' p q = cc

pub only-capbeacon-process-offset-place : OneRoom block.capbeacon_process_offset.Kinds.ps block.capbeacon_process_offset.Kinds.r (λ κs e. e.1.1.0.now) block.capbeacon_process_offset.Reads.Post
only-capbeacon-process-offset-place κs a z z' e e' p q = cc

pub only-capbeacon-process-offset-offset : OneRoom block.capbeacon_process_offset.Kinds.ps block.capbeacon_process_offset.Kinds.r (λ κs e. e.1.1.1.0.now) block.capbeacon_process_offset.Reads.Post
only-capbeacon-process-offset-offset κs a z z' e e' p q = cc

-- `listing::capbeacon_list_tree`
pub only-capbeacon-list-tree : OneAnswer listing.capbeacon_list_tree.Kinds.ps listing.capbeacon_list_tree.Kinds.r listing.capbeacon_list_tree.Reads.Post
only-capbeacon-list-tree κs a z z' e e' p q = cc

pub only-capbeacon-list-tree-room : OneRoom listing.capbeacon_list_tree.Kinds.ps listing.capbeacon_list_tree.Kinds.r (λ κs e. e.1.1.1.1.1.1.1.1.1.1.1.1.1.1.0.now) listing.capbeacon_list_tree.Reads.Post
only-capbeacon-list-tree-room κs a z z' e e' p q = cc

pub only-capbeacon-list-tree-place : OneRoom listing.capbeacon_list_tree.Kinds.ps listing.capbeacon_list_tree.Kinds.r (λ κs e. e.1.1.1.1.1.1.1.1.1.1.1.1.1.1.1.0.now) listing.capbeacon_list_tree.Reads.Post
only-capbeacon-list-tree-place κs a z z' e e' p q = cc

pub only-capbeacon-list-tree-listed : OneRoom listing.capbeacon_list_tree.Kinds.ps listing.capbeacon_list_tree.Kinds.r (λ κs e. e.1.1.1.1.1.1.1.1.1.1.1.1.1.1.1.1.0.now) listing.capbeacon_list_tree.Reads.Post
only-capbeacon-list-tree-listed κs a z z' e e' p q = cc

-- `one_layout::capbeacon_layout_of_key`
pub only-capbeacon-layout-of-key : OneAnswer one_layout.capbeacon_layout_of_key.Kinds.ps one_layout.capbeacon_layout_of_key.Kinds.r one_layout.capbeacon_layout_of_key.Reads.Post
only-capbeacon-layout-of-key κs a z z' e e' p q = cc

pub only-capbeacon-layout-of-key-room : OneRoom one_layout.capbeacon_layout_of_key.Kinds.ps one_layout.capbeacon_layout_of_key.Kinds.r (λ κs e. e.1.1.1.1.1.1.1.1.1.1.1.1.1.1.1.0.now) one_layout.capbeacon_layout_of_key.Reads.Post
only-capbeacon-layout-of-key-room κs a z z' e e' p q = cc

pub only-capbeacon-layout-of-key-place : OneRoom one_layout.capbeacon_layout_of_key.Kinds.ps one_layout.capbeacon_layout_of_key.Kinds.r (λ κs e. e.1.1.1.1.1.1.1.1.1.1.1.1.1.1.1.1.0.now) one_layout.capbeacon_layout_of_key.Reads.Post
only-capbeacon-layout-of-key-place κs a z z' e e' p q = cc

pub only-capbeacon-layout-of-key-row : OneRoom one_layout.capbeacon_layout_of_key.Kinds.ps one_layout.capbeacon_layout_of_key.Kinds.r (λ κs e. e.1.1.1.1.1.1.1.1.1.1.1.1.1.1.1.1.1.0.now) one_layout.capbeacon_layout_of_key.Reads.Post
only-capbeacon-layout-of-key-row κs a z z' e e' p q = cc

pub only-capbeacon-layout-of-key-size : OneRoom one_layout.capbeacon_layout_of_key.Kinds.ps one_layout.capbeacon_layout_of_key.Kinds.r (λ κs e. e.1.1.1.1.1.1.1.1.1.1.1.1.1.1.1.1.1.1.0.now) one_layout.capbeacon_layout_of_key.Reads.Post
only-capbeacon-layout-of-key-size κs a z z' e e' p q = cc

pub only-capbeacon-layout-of-key-members : OneRoom one_layout.capbeacon_layout_of_key.Kinds.ps one_layout.capbeacon_layout_of_key.Kinds.r (λ κs e. e.1.1.1.1.1.1.1.1.1.1.1.1.1.1.1.1.1.1.1.0.now) one_layout.capbeacon_layout_of_key.Reads.Post
only-capbeacon-layout-of-key-members κs a z z' e e' p q = cc

-- `all_layouts::capbeacon_all_layouts`
pub only-capbeacon-all-layouts : OneAnswer all_layouts.capbeacon_all_layouts.Kinds.ps all_layouts.capbeacon_all_layouts.Kinds.r all_layouts.capbeacon_all_layouts.Reads.Post
only-capbeacon-all-layouts κs a z z' e e' p q = cc

pub only-capbeacon-all-layouts-structures : OneRoom all_layouts.capbeacon_all_layouts.Kinds.ps all_layouts.capbeacon_all_layouts.Kinds.r (λ κs e. e.1.1.1.1.1.1.1.1.1.1.1.1.1.1.0.now) all_layouts.capbeacon_all_layouts.Reads.Post
only-capbeacon-all-layouts-structures κs a z z' e e' p q = cc

pub only-capbeacon-all-layouts-members : OneRoom all_layouts.capbeacon_all_layouts.Kinds.ps all_layouts.capbeacon_all_layouts.Kinds.r (λ κs e. e.1.1.1.1.1.1.1.1.1.1.1.1.1.1.1.0.now) all_layouts.capbeacon_all_layouts.Reads.Post
only-capbeacon-all-layouts-members κs a z z' e e' p q = cc

pub only-capbeacon-all-layouts-place : OneRoom all_layouts.capbeacon_all_layouts.Kinds.ps all_layouts.capbeacon_all_layouts.Kinds.r (λ κs e. e.1.1.1.1.1.1.1.1.1.1.1.1.1.1.1.1.0.now) all_layouts.capbeacon_all_layouts.Reads.Post
only-capbeacon-all-layouts-place κs a z z' e e' p q = cc

pub only-capbeacon-all-layouts-structure-count : OneRoom all_layouts.capbeacon_all_layouts.Kinds.ps all_layouts.capbeacon_all_layouts.Kinds.r (λ κs e. e.1.1.1.1.1.1.1.1.1.1.1.1.1.1.1.1.1.0.now) all_layouts.capbeacon_all_layouts.Reads.Post
only-capbeacon-all-layouts-structure-count κs a z z' e e' p q = cc

pub only-capbeacon-all-layouts-member-count : OneRoom all_layouts.capbeacon_all_layouts.Kinds.ps all_layouts.capbeacon_all_layouts.Kinds.r (λ κs e. e.1.1.1.1.1.1.1.1.1.1.1.1.1.1.1.1.1.1.0.now) all_layouts.capbeacon_all_layouts.Reads.Post
only-capbeacon-all-layouts-member-count κs a z z' e e' p q = cc
