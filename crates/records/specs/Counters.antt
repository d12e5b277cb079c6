-- The counters behind a token; counters by their fields.
-- Assumes nothing.
use Rattle.std.specs.Prelude.{◌≡◌, ℕ, ◌+◌, ◌<◌, min}
use Rattle.std.proofs.Common.{sym, arith}
use Rattle.names.specs.declared.tokens.Token.{Token}
use Rattle.records.specs.declared.counters.Counters.{Counters}

-- behind a token
abbrev pub stepped : Counters → Token → Counters
stepped c t = record { at = c.at + 1; end = t.end; nodes = c.nodes; diagnostics = c.diagnostics }

-- the counters r behind a token, whatever the counters were: the last place of all has none behind it
pub record Over (c : Counters) (t : Token) (r : Counters) : Type 0 where
  pub at : r.at ≡ min (c.at + 1) 65535
  pub end : r.end ≡ t.end
  pub nodes : r.nodes ≡ c.nodes
  pub diagnostics : r.diagnostics ≡ c.diagnostics

-- a diagnostic more, as far as they are counted
pub record OneMore (c r : Counters) : Type 0 where
  pub at : r.at ≡ c.at
  pub end : r.end ≡ c.end
  pub nodes : r.nodes ≡ c.nodes
  pub diagnostics : r.diagnostics ≡ min (c.diagnostics + 1) 65535

-- a node more, as far as they are counted
pub record OneNode (c r : Counters) : Type 0 where
  pub at : r.at ≡ c.at
  pub end : r.end ≡ c.end
  pub nodes : r.nodes ≡ min (c.nodes + 1) 65535
  pub diagnostics : r.diagnostics ≡ c.diagnostics

pub counters_are : (c : Counters) (a l n d : ℕ) → c.at ≡ a → c.end ≡ l → c.nodes ≡ n → c.diagnostics ≡ d → c ≡ record { at = a; end = l; nodes = n; diagnostics = d }
counters_are c a l n d h i j k = rw (sym h, sym i, sym j, sym k)

pub over_is : {c r : Counters} {t : Token} → c.at < 65535 → Over c t r → r ≡ stepped c t
over_is {c} {r} {t} h e = counters_are r _ _ _ _ (omega (arith, h, e.at)) e.end e.nodes e.diagnostics
