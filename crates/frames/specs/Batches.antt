-- What the public functions promise: every result, and every byte of both stores.
-- Assumes nothing.
use Rattle.std.specs.Prelude.{◌≡◌, List, ℕ, length}
use Rattle.records.specs.Stores.{written}
use Rattle.frames.specs.Machine.{steps, fresh, last_line}
use Rattle.frames.specs.declared.batches.Batched.{Batched}

pub record BatchTold (I : List ℕ) (H : ℕ) (C O C' O' : List ℕ) (r : Batched) : Type 0 where
  pub consumed : r.consumed ≡ (steps I (fresh H C O)).consumed
  pub held : r.held ≡ (steps I (fresh H C O)).held
  pub filled : r.written ≡ (steps I (fresh H C O)).filled
  pub carry : C' ≡ (steps I (fresh H C O)).carry
  pub out : O' ≡ (steps I (fresh H C O)).out

pub record FinishTold (H : ℕ) (C O O' : List ℕ) (r : ℕ) : Type 0 where
  pub filled : r ≡ length (last_line H C)
  pub out : O' ≡ written O 0 (last_line H C)
