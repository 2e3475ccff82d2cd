-- The 57 attribute numbers that document 01 names. An attribute's form is the low four bits of its number.
use Rattle.std.specs.Prelude.{ℕ, List, [], ◌∷◌, ◌++◌}

abbrev pub sibling : ℕ
sibling = 0x0012

abbrev pub location : ℕ
location = 0x0023

abbrev pub name : ℕ
name = 0x0038

abbrev pub fund_type : ℕ
fund_type = 0x0055

abbrev pub mod_fund_type : ℕ
mod_fund_type = 0x0063

abbrev pub user_def_type : ℕ
user_def_type = 0x0072

abbrev pub mod_ud_type : ℕ
mod_ud_type = 0x0083

abbrev pub subscr_data : ℕ
subscr_data = 0x00a3

abbrev pub byte_size : ℕ
byte_size = 0x00b6

abbrev pub bit_offset : ℕ
bit_offset = 0x00c5

abbrev pub bit_size : ℕ
bit_size = 0x00d6

abbrev pub element_list : ℕ
element_list = 0x00f4

abbrev pub low_pc : ℕ
low_pc = 0x0111

abbrev pub high_pc : ℕ
high_pc = 0x0121

abbrev pub member : ℕ
member = 0x0142

abbrev pub containing_type : ℕ
containing_type = 0x01d2

abbrev pub private : ℕ
private = 0x0248

abbrev pub protected : ℕ
protected = 0x0268

abbrev pub public : ℕ
public = 0x0288

abbrev pub specification : ℕ
specification = 0x02b2

-- the numbers that are used by name
unfoldable pub used : List ℕ
used =
    sibling ∷ location ∷ name ∷ fund_type ∷ mod_fund_type ∷ user_def_type ∷ mod_ud_type ∷ subscr_data ∷
    byte_size ∷ bit_offset ∷ bit_size ∷ element_list ∷ low_pc ∷ high_pc ∷ member ∷ containing_type ∷
    private ∷ protected ∷ public ∷ specification ∷ []

-- the numbers that are also known, in document 01's order
unfoldable pub also_known : List ℕ
also_known =
    0x0095 ∷ 0x0106 ∷ 0x0136 ∷ 0x0152 ∷ 0x0163 ∷ 0x0193 ∷ 0x01a2 ∷ 0x01b8 ∷ 0x01c3 ∷ 0x01c4 ∷
    0x01c5 ∷ 0x01c6 ∷ 0x01c7 ∷ 0x01c8 ∷ 0x01e1 ∷ 0x01e5 ∷ 0x01e7 ∷ 0x01e8 ∷ 0x01f3 ∷ 0x0208 ∷
    0x0218 ∷ 0x0222 ∷ 0x0225 ∷ 0x0226 ∷ 0x0227 ∷ 0x0238 ∷ 0x0258 ∷ 0x0278 ∷ 0x0298 ∷ 0x02a3 ∷
    0x02c6 ∷ 0x02e6 ∷ 0x02f2 ∷ 0x02f5 ∷ 0x02f6 ∷ 0x02f7 ∷ 0x0308 ∷ []

-- every number that document 01 names
unfoldable pub attribute_kinds : List ℕ
unfolding used also_known
attribute_kinds = used ++ also_known
