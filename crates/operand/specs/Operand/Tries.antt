-- The Rust's `?` on readers, and its match on an expression that may be absent: what ends a reading is said once.
-- Assumes nothing.
use Rattle.expressions.specs.Trees.{Expr}
use Rattle.expressions.specs.declared.reading.Setting.{Setting}
use Rattle.expressions.specs.Reader.{Reader, answer, bind, ◌>>=◌}
use Rattle.expressions.specs.Expressions.{Term, read, reported, absent, parse_expression}
use Rattle.std.specs.Prelude.{Option, Some, None}

-- on with what was read, or none
unfoldable pub or_none : {A B : Type 0} → (A → Reader (Option B)) → Option A → Reader (Option B)
or_none f (Some a) = f a
or_none f None = answer None

-- `let a = p?; f a`
infixl 20 ◌>>=?◌
abbrev pub ◌>>=?◌ : {A B : Type 0} → Reader (Option A) → (A → Reader (Option B)) → Reader (Option B)
◌>>=?◌ p f = bind p (or_none f)

-- `Ok(e) => f e, Err(Reported) => return None, Err(Absent) => missing`
unfoldable pub or_absent : {A : Type 0} → Reader (Option A) → (Expr → Reader (Option A)) → Term → Reader (Option A)
or_absent missing f (read e) = f e
or_absent missing f reported = answer None
or_absent missing f absent = missing

-- an expression and what follows it, or what is said where none stands
abbrev pub expression_or : {A : Type 0} → Setting → Reader (Option A) → (Expr → Reader (Option A)) → Reader (Option A)
expression_or s missing f = parse_expression s.limit >>= or_absent missing f
