-- The atoms that a location is made of: the standard's, and three of Metrowerks' own.
use Rattle.std.specs.Prelude.{ℕ, List, [], ◌∷◌}
use Rattle.format.specs.Lookup.{Line, ◌means◌, lookup}
use Rattle.format.specs.declared.location_op.LocationOp.{LocationOp}
use Rattle.format.specs.declared.location_op.LocationOp.TheVariants.{Register, BaseRegister, Address, Const, Deref2, Deref4, Add, MwFpReg}
use Rattle.format.specs.declared.location_op.LocationOp.TheVariants.{MwFpDReg, MwDRef8, Unknown}

-- the byte of each
unfoldable pub location_ops : List (Line LocationOp)
location_ops =
    0x01 means Register ∷
    0x02 means BaseRegister ∷
    0x03 means Address ∷
    0x04 means Const ∷
    0x05 means Deref2 ∷
    0x06 means Deref4 ∷
    0x07 means Add ∷
    0x80 means MwFpReg ∷
    0x81 means MwFpDReg ∷
    0x82 means MwDRef8 ∷ []

-- the atom that a byte says
unfoldable pub location_op_of : ℕ → LocationOp
unfolding location_ops
location_op_of n = lookup location_ops Unknown n
