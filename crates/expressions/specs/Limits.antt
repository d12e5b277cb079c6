-- A higher nesting limit changes nothing of an expression that raises no NestingTooDeep.
-- Assumes nothing.
use Rattle.std.specs.Prelude.{◌≡◌}
use Rattle.records.specs.DiagnosticKinds
use Rattle.records.specs.declared.diagnostics.Diagnostic.{Diagnostic}

-- any diagnostic but NestingTooDeep
abbrev pub NotTooDeep : Diagnostic → Type 0
NotTooDeep d = d.kind ≡ DiagnosticKinds.nesting_too_deep → ⊥
