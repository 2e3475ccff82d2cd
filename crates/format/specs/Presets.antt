-- What a section of the Rust's kind is read with: the vendor numbers and roles that complete its attribute numbers, and its sizes.
use Rattle.std.specs.Prelude.{ℕ, List, [], ◌∷◌}
use Rattle.format.specs.declared.settings.Roles.{Roles}

-- the 47 numbers that the Rust's `AttributeKind` has beside document 01's, but for two that have no form (docs/DIFFERENCES.md)
abbrev pub mw_vendors : List ℕ
mw_vendors =
    0x0293 ∷ 0x0303 ∷ 0x2008 ∷ 0x2013 ∷ 0x2022 ∷ 0x2038 ∷ 0x2043 ∷ 0x2053 ∷ 0x2063 ∷ 0x2073 ∷ 0x2083 ∷ 0x2093 ∷
    0x20a3 ∷ 0x20b3 ∷ 0x20c3 ∷ 0x20d3 ∷ 0x20e3 ∷ 0x20f3 ∷ 0x2103 ∷ 0x2113 ∷ 0x2123 ∷ 0x2133 ∷ 0x2143 ∷ 0x2153 ∷
    0x2163 ∷ 0x2173 ∷ 0x2183 ∷ 0x2193 ∷ 0x21a3 ∷ 0x21b3 ∷ 0x21c3 ∷ 0x21d3 ∷ 0x2243 ∷ 0x2253 ∷ 0x2263 ∷ 0x2273 ∷
    0x2283 ∷ 0x2296 ∷ 0x22a8 ∷ 0x2303 ∷ 0x2314 ∷ 0x2338 ∷ 0x2343 ∷ 0x8006 ∷ 0x8016 ∷ 0x8041 ∷ 0x8051 ∷ []

-- the four of them that play a role
abbrev pub mw_roles : Roles
mw_roles = record { global_ref = 0x2022; mangled = 0x2008; overlay_name = 0x22a8; overlay_id = 0x2296 }

-- none does
abbrev pub no_roles : Roles
no_roles = record { global_ref = 0; mangled = 0; overlay_name = 0; overlay_id = 0 }

-- the Rust's sizes of the 28 fundamental types, in its order; five of them, for which it has none, have this one
abbrev pub rust_sizes : ℕ → List ℕ
rust_sizes other =
    2 ∷ 1 ∷ 1 ∷ 1 ∷ 2 ∷ 2 ∷ 2 ∷ 4 ∷ 4 ∷ 4 ∷ 4 ∷ 4 ∷ 4 ∷ 4 ∷ 4 ∷ 8 ∷ other ∷ other ∷ other ∷ 0 ∷ 1 ∷ other ∷ other ∷ 8 ∷ 8 ∷ 8 ∷ 16 ∷ 8 ∷ []
