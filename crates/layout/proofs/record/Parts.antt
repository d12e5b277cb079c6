-- The parts of an operand's record, put together.
-- Assumes nothing.
use mathlib.Core.Path.{◌≡◌, refl, sym}
use mathlib.Core.List.{[], ◌∷◌}
use Prim.Native.Nat.{◌/◌}
use Rattle.std.specs.Prelude.{Option, Some, None, false, unwrap_or}
use Rattle.operand.specs.Records.{flag}
use Rattle.records.specs.Nodes.{low_first}
use Rattle.records.specs.Spans.{no_span}
use Rattle.operand.specs.declared.layouts.Layout.{Layout}
use Rattle.operand.specs.Layouts.{number}
use Rattle.operand.specs.Layout.{low, sized_part, base_part, index_part, bytes_of}
use Rattle.operand.specs.declared.forms.IndexRegister.{IndexRegister}
use Rattle.operand.specs.declared.forms.OperandRecord.{OperandRecord}
use Rattle.operand.specs.declared.forms.Sized.{Sized}
use Rattle.layout.specs.declared.record.Filled.{Filled}
use Rattle.layout.specs.Record.{SizedAs, IndexAs, FilledFrom}

module _ (x : OperandRecord) (p : Filled) (h : FilledFrom x p) where
  pub narrow_record : x.form ∷ low x.span.start ∷ low x.span.end ∷ low p.displacement.node ∷ p.displacement.size ∷ p.base.index ∷ low p.base.span.start ∷ low p.base.span.end ∷ p.index.register.index ∷ low p.index.register.span.start ∷ low p.index.register.span.end ∷ p.index.size ∷ p.index.scale ∷ p.suppressed ∷ low p.index.span.start ∷ low p.index.span.end ∷ x.indirection ∷ low p.outer.node ∷ p.outer.size ∷ x.special ∷ []
      ≡ bytes_of Layout.Narrow x
  unfolding bytes_of sized_part base_part index_part number low_first
  narrow_record = rw (sym (h.displacement Layout.Narrow), sym (h.base Layout.Narrow), sym (h.index Layout.Narrow), sym (h.outer Layout.Narrow), h.suppressed) refl

  pub wide_record : x.form ∷ low x.span.start ∷ low (x.span.start / 256) ∷ low x.span.end ∷ low (x.span.end / 256) ∷ low p.displacement.node ∷ low (p.displacement.node / 256) ∷ p.displacement.size ∷ p.base.index ∷ low p.base.span.start ∷ low (p.base.span.start / 256) ∷ low p.base.span.end ∷ low (p.base.span.end / 256) ∷ p.index.register.index ∷ low p.index.register.span.start ∷ low (p.index.register.span.start / 256) ∷ low p.index.register.span.end ∷ low (p.index.register.span.end / 256) ∷ p.index.size ∷ p.index.scale ∷ p.suppressed ∷ low p.index.span.start ∷ low (p.index.span.start / 256) ∷ low p.index.span.end ∷ low (p.index.span.end / 256) ∷ x.indirection ∷ low p.outer.node ∷ low (p.outer.node / 256) ∷ p.outer.size ∷ x.special ∷ []
      ≡ bytes_of Layout.Wide x
  unfolding bytes_of sized_part base_part index_part number low_first
  wide_record = rw (sym (h.displacement Layout.Wide), sym (h.base Layout.Wide), sym (h.index Layout.Wide), sym (h.outer Layout.Wide), h.suppressed) refl

-- ---- what may be absent

pub sized_as : (d : Option Sized) → SizedAs (unwrap_or d (record { node = 65535; size = 0 })) d
unfolding sized_part
sized_as (Some x) w = refl
sized_as None w = refl

pub index_as : (x : Option IndexRegister) → IndexAs (unwrap_or x (record { register = record { index = 255; span = no_span }; size = 0; scale = 0; suppressed = false; span = no_span })) x
unfolding index_part flag
index_as (Some x) w = refl
index_as None w = refl
