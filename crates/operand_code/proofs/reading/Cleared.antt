-- The whole operand: its nodes alone stand in the store, and all behind them is cleared.
-- Assumes nothing.
use mathlib.Core.Path.{◌≡◌, refl, sym, ◌∙◌, ap, subst}
use mathlib.Core.List.{List, ◌++◌, append-nil}
use Prim.Native.Nat.{ℕ, ◌-◌, ◌*◌, ◌≤◌}
use native.Mathlib.Omega.{arith}
use lib.ListN.{length, take, replicate}
use lib.Seq.{drop-length}
use Rattle.names.specs.Tokens.{count, token_at}
use Rattle.names.specs.Places.{place, below, there, nowhere}
use Rattle.names.specs.declared.tokens.Token.{Token}
use Rattle.records.specs.declared.counters.Counters.{Counters}
use Rattle.records.specs.Counters.{counters_are}
use Rattle.records.specs.Stores.{cleared, added}
use Rattle.records.specs.Written.{cleared_is}
use Rattle.expressions.specs.Reader.{Reading, run}
use Rattle.expressions.specs.declared.source.Source.{Source}
use Rattle.operand.specs.Operands.{Operand}
use Rattle.operand.specs.Operand.{setting_from, operand_from, reading_of}
use Rattle.operand.specs.Records.{size_m, nodes_m}
use Rattle.operand.proofs.Readings.{nodes_few, within, started, ended}
use Rattle.operand.specs.declared.forms.OperandRecord.{OperandRecord}
use Rattle.operand_code.specs.Operands.{HeldBy, OperandTold}
use Rattle.operand_code.specs.Reading.{first, ReadAsks, nodes_alone, OperandFits, NothingTold}
use Rattle.std.specs.Prelude.{Option, Some, None}
use Rattle.operand.specs.declared.forms.OperandStep.{OperandStep}
use Rattle.operand.specs.Forms.{record_of}
use Rattle.operand_code.proofs.Rooms.{MappedAs, map_is, map_not}

-- a store whose first n records are v's, cleared behind them
alone : (v : Option Operand) (N N₁ N₂ : List ℕ) (n : ℕ) → take (10 * n) N₁ ≡ nodes_m v → n ≡ size_m v → length N₁ ≡ length N → 10 * n ≤ length N → N₂ ≡ cleared N₁ (10 * n) (length N₁) → N₂ ≡ nodes_alone v (length N)
unfolding nodes_alone
alone v N N₁ N₂ n b e l f k =
    cleared_is N₁ (10 * n) (length N₁) b (ap (λ z. 10 * z) e) (drop-length N₁) (omega (arith, l, f)) (omega arith) k
    ∙ append-nil (nodes_m v ++ replicate (length N₁ - 10 * size_m v) 0)
    ∙ ap (λ z. nodes_m v ++ replicate (z - 10 * size_m v) 0) l

-- a store that was lent ends as the reference to it that comes back holds it
pub lent_back : {G : Type 0} {g k : G} {D₁ D₂ : List ℕ} → k ≡ g → (g ≡ k → D₂ ≡ D₁) → D₂ ≡ D₁
lent_back e f = f (sym e)

module _ {a : Source} {N N₁ D D₁ : List ℕ} {c : Counters} (k : Token) (h : ReadAsks a N c k) {v : Option OperandRecord} {r : Counters}
    (told : OperandTold (operand_from a.setting) a.line.now a.tokens.now D N₁ D₁ c v r) (long : length N₁ ≡ length N) where
  abbrev whole : Reading (Option Operand)
  whole = run (operand_from (setting_from a.setting.limit a.setting.mark k)) (place a.line.now a.tokens.now) c.at 0

  reads : reading_of a.setting.limit a.setting.mark (place a.line.now a.tokens.now) c.at ≡ whole
  reads = started a.setting.limit a.setting.mark (place a.line.now a.tokens.now) c.at k _ (there a.line.now a.tokens.now c.at k h.stands)

  whole_told : OperandTold (operand_from (setting_from a.setting.limit a.setting.mark k)) a.line.now a.tokens.now D N₁ D₁ (first c.at) v r
  whole_told =
      subst (λ z. OperandTold (operand_from z) a.line.now a.tokens.now D N₁ D₁ (first c.at) v r) (ap (λ z. record { limit = a.setting.limit; mark = a.setting.mark; start = z }) h.opens)
      (subst (λ z. OperandTold (operand_from a.setting) a.line.now a.tokens.now D N₁ D₁ z v r) h.fresh told)

  -- no more nodes than tokens
  fits : 10 * size_m whole.value ≤ length N
  fits =
      omega (
        arith,
        h.asks,
        rw reads at (nodes_few a.setting.limit h.asks.deep a.setting.mark (place a.line.now a.tokens.now) c.at),
        rw reads at (within a.setting.limit a.setting.mark (place a.line.now a.tokens.now) (count a.tokens.now) c.at (λ j q x g. below a.line.now a.tokens.now j q x g) h.asks.within),
      )

  module _ {x : OperandRecord} (e : v ≡ Some x) where
    -- the operand that is read
    is_read : MappedAs record_of whole.value x
    is_read = map_is record_of whole.value (sym whole_told.told.what ∙ e)

    -- its nodes are the records that count
    held : (size_m whole.value ≡ r.nodes) × (nodes_m whole.value ≡ take (10 * r.nodes) N₁)
    unfolding HeldBy size_m nodes_m
    held = let w = rw is_read.is at whole_told.told.held in (rw is_read.is w.1, rw is_read.is w.0)

    pub operand_kept : {N₂ : List ℕ} → N₂ ≡ cleared N₁ (10 * r.nodes) (length N₁) → OperandFits (reading_of a.setting.limit a.setting.mark (place a.line.now a.tokens.now) c.at) N D N₂ D₁ (record { operand = Some x; counters = r })
    operand_kept {N₂} e₂ =
        rw reads
        (record {
          operand = sym e ∙ whole_told.told.what;
          counters = counters_are r whole.cursor whole.end (size_m whole.value) (length whole.raised) whole_told.told.at whole_told.told.end (sym held.0) (omega (arith, whole_told.told.seen));
          nodes = alone whole.value N N₁ N₂ r.nodes (sym held.1) (sym held.0) long (omega (arith, fits, held.0)) e₂;
          diagnostics = whole_told.told.more;
        })

  -- without an operand no node is used
  pub nothing_kept : {N₂ : List ℕ} {q : OperandStep} → v ≡ None → NothingTold N₁ N₂ r q → OperandFits (reading_of a.setting.limit a.setting.mark (place a.line.now a.tokens.now) c.at) N D N₂ D₁ q
  unfolding size_m nodes_m
  nothing_kept {N₂} e w =
      let none = map_not record_of whole.value (sym whole_told.told.what ∙ e) in
      rw reads
      (record {
        operand = w.operand ∙ sym e ∙ whole_told.told.what;
        counters = w.counters ∙ counters_are _ whole.cursor whole.end (size_m whole.value) (length whole.raised) whole_told.told.at whole_told.told.end (sym (ap size_m none)) (omega (arith, whole_told.told.seen));
        nodes = alone whole.value N N₁ N₂ 0 (sym (ap nodes_m none)) (sym (ap size_m none)) long (omega arith) w.nodes;
        diagnostics = whole_told.told.more;
      })

pub nothing_from : {N N' : List ℕ} {c c₁ : Counters} {r : OperandStep} → c₁ ≡ c → NothingTold N N' c₁ r → NothingTold N N' c r
nothing_from {N} {N'} {r = r} e h = subst (λ z. NothingTold N N' z r) e h

-- at the list's end
pub ended_kept : (L T : List ℕ) {N D N' : List ℕ} (start limit mark : ℕ) {r : OperandStep} → token_at T start ≡ None → NothingTold N N' (first start) r
    → OperandFits (reading_of limit mark (place L T) start) N D N' D r
unfolding size_m nodes_m added
ended_kept L T {N} {N' = N'} start limit mark e h =
    rw (ended limit mark (place L T) start (nowhere L T start e))
    (record {
      operand = h.operand;
      counters = h.counters;
      nodes = alone None N N N' 0 refl refl refl (omega arith) h.nodes;
      diagnostics = refl;
    })
