-- A refusal as the code has it.
use Rattle.std.specs.Prelude.{ℕ}
use Rattle.format.specs.declared.refusal.Refusal.{Refusal}
use Rattle.format.specs.declared.refusal.Reason.{Reason}

-- a refusal with its place
abbrev pub refused_at : ℕ → Reason → Refusal
refused_at place why = record { reason = why; place = place }
