-- What a part of the input leaves for the next one. No contract can say what is read or written.
-- Assumes nothing.
use Rattle.std.specs.Prelude.{◌≡◌, List, ℕ, zero, suc, ◌≤◌, length, take, Option, Some, None, IfSome}
use Rattle.frames.specs.Machine.{last_line}
use Rattle.frames.specs.Batches.{FinishTold}
use Rattle.frames.specs.Program.{drained, Leaves}
use Rattle.operands.specs.declared.Answering.{Answering}

-- what a read of at most n bytes may answer: how many, or that it failed
abbrev pub Moved : ℕ → Option ℕ → Type 0
Moved n got = IfSome got (λ k. k ≤ n)

-- where the program goes on, the part I was answered as a run of `batch` answers it
abbrev pub PartTold : List ℕ → Answering → Answering → Option (Unit {0}) → Type 0
PartTold I a b r = IfSome r (λ _. Leaves (drained (length I) I a.held a.carry a.out) b.held b.carry b.out)

-- the last line was answered as `finish` answers it
abbrev pub LastTold : Answering → Answering → Type 0
LastTold a b = FinishTold a.held a.carry a.out b.out (length (last_line a.held a.carry)) × (b.held ≡ a.held) × (b.carry ≡ a.carry)

-- by what the read gave: where it failed the program ends and nothing is answered; at the input's end it ends with the last line; else the part is just
-- so many bytes, the first of the store I
abbrev pub ReadTold : Option ℕ → List ℕ → Answering → Answering → Option (Unit {0}) → Type 0
ReadTold None I a b r = (r ≡ None) × (b ≡ a)
ReadTold (Some zero) I a b r = (r ≡ None) × LastTold a b
ReadTold (Some (suc k)) I a b r = PartTold (take (suc k) I) a b r
