-- How operands are spelled: a constructor for each spelling of document 01's table.
-- Assumes nothing.
use Rattle.std.specs.Prelude.{Ok, ◌≡◌, Bool, true, false, List, [], ◌∷◌, ◌⊎◌, ℕ, ◌+◌, ◌-◌, ◌≤◌, ◌<◌, Option, Some, None}
use Rattle.names.specs.Kinds
use Rattle.names.specs.Places.{Place, stands}
use Rattle.names.specs.Registers.{special_of}
use Rattle.names.specs.Cases.{special_number, size_number}
use Rattle.names.specs.Sizes.{run_of, size_of}
use Rattle.names.specs.Numbers.{number_of}
use Rattle.names.specs.declared.tokens.Token.{Token}
use Rattle.names.specs.declared.registers.SpecialRegister.{SpecialRegister}
use Rattle.names.specs.declared.registers.Suppressed.{Suppressed}
use Rattle.names.specs.declared.sizes.SizeSuffix.{SizeSuffix}
use Rattle.records.specs.Spans.{span, span_of}
use Rattle.expressions.specs.Trees.{Expr, span_e}
use Rattle.expressions.specs.declared.reading.Setting.{Setting}
use Rattle.operand.specs.Operands.{Displacement, displaced, undisplaced, RegisterListItem, single, range, Operand}
use Rattle.operand.specs.Operands as O
use Rattle.operand.specs.Operand.{is_suppressed, registers, no_registers, setting_from}
use Rattle.operand.specs.declared.forms.Register.{Register}
use Rattle.operand.specs.declared.forms.IndexRegister.{IndexRegister}
use Rattle.operand.specs.declared.forms.BaseRegister.{BaseRegister}
use Rattle.operand.specs.declared.forms.Registers.{Registers}
use Rattle.spelling.specs.Signs.{Sign, Name, RegisterAt, CounterAt, SuppressedAt}
use Rattle.spelling.specs.Expressions.{Spells}

-- what follows a whole operand: the list's end, a comma or EndOfLine
pub record Closed (at : ℕ → Place) (j : ℕ) : Type 0 where
  pub kinds : (k : Token) (x : List ℕ) → at j ≡ stands k x → (k.kind ≡ Kinds.comma) ⊎ (k.kind ≡ Kinds.end_of_line)

-- `.s`, one known size letter: its size, and the number n of that
pub record Letter (at : ℕ → Place) (i n : ℕ) : Type 0 where
  pub sign : Sign at Kinds.size_suffix i
  pub size : SizeSuffix
  pub known : size_of (run_of sign.text) ≡ Some size
  pub number : size_number (Some size) ≡ n

-- always optional. Sized i j n z: a size n, 0 for none, from i up to j; z is where it ends, or what it is told to be where there is none
pub data Sized (at : ℕ → Place) (b : ℕ) : ℕ → ℕ → ℕ → ℕ → Type 0 where
  no_size : {i : ℕ} → Sized at b i i 0 b
  a_size : {i n : ℕ} (t : Letter at i n) → Sized at b i (i + 1) n t.sign.token.end

-- the scales that there are
pub data Factor : ℕ → Type 0 where
  one : Factor 1
  two : Factor 2
  four : Factor 4
  eight : Factor 8

-- optionally `*` and a number worth 1, 2, 4 or 8
pub data Scaled (at : ℕ → Place) (b : ℕ) : ℕ → ℕ → ℕ → ℕ → Type 0 where
  no_scale : {i : ℕ} → Scaled at b i i 0 b
  a_scale : {i v : ℕ} → Sign at Kinds.star i → (t : Sign at Kinds.number (i + 1)) → number_of t.token.detail t.text ≡ Ok v → Factor v
      → Scaled at b i (i + 1 + 1) v t.token.end

-- An
pub data AddressAt (at : ℕ → Place) (i : ℕ) (r : Register) : Type 0 where
  an_address : RegisterAt at i r → 8 ≤ r.index → AddressAt at i r

module _ (s : Setting) (at : ℕ → Place) where
  -- the register of an index: of R, or a Z other than `zpc`
  pub data IndexAt : ℕ → Bool → Register → Type 0 where
    plain : {i : ℕ} {r : Register} → RegisterAt at i r → IndexAt i false r
    suppressed : {i r : ℕ} (z : SuppressedAt s at i (Some (Suppressed.Register r))) → IndexAt i true (record { index = r; span = span_of z.name.token })

  -- X: R, or a Z other than `zpc`, with the same tails: a size, then a scale, each optional. R is an X that is not suppressed
  pub data Indexes : ℕ → ℕ → IndexRegister → Type 0 where
    index_spelled : {i j n size scale z y : ℕ} {b : Bool} {r : Register} → IndexAt i b r → Sized at r.span.end (i + 1) j size z → Scaled at z j n scale y
        → Indexes i n (record { register = r; size = size; scale = scale; suppressed = b; span = span r.span.start y })

  -- B: bare An, PC, or bare Z address or `zpc`
  pub data Bases : ℕ → BaseRegister → Type 0 where
    address : {i : ℕ} {r : Register} → AddressAt at i r → Bases i (BaseRegister.Address r)
    counter : {i : ℕ} → CounterAt at i → Bases i BaseRegister.ProgramCounter
    suppressed_address : {i r : ℕ} → SuppressedAt s at i (Some (Suppressed.Register r)) → 8 ≤ r → Bases i (BaseRegister.SuppressedAddress (r - 8))
    suppressed_counter : {i : ℕ} → SuppressedAt s at i (Some Suppressed.ProgramCounter) → Bases i BaseRegister.SuppressedProgramCounter

  -- BI: B, `B,X`, or X where X is no B: a data register, or one with a size or a scale
  pub data BaseAndIndex : ℕ → ℕ → Registers → Type 0 where
    base : {i : ℕ} {b : BaseRegister} → Bases i b → BaseAndIndex i (i + 1) (registers b None)
    base_index : {i j : ℕ} {b : BaseRegister} {x : IndexRegister} → Bases i b → Sign at Kinds.comma (i + 1) → Indexes (i + 1 + 1) j x
        → BaseAndIndex i j (registers b (Some x))
    index : {i j : ℕ} {x : IndexRegister} → Indexes i j x → (x.register.index < 8) ⊎ (i + 1 < j)
        → BaseAndIndex i j (registers BaseRegister.Omitted (Some x))

  -- F: a BI beginning with Z, a data register, or an address register with size or scale, which is then an X alone
  pub data Full : ℕ → ℕ → Registers → Type 0 where
    by_suppressed : {i j : ℕ} {z : Option Suppressed} {r : Registers} → SuppressedAt s at i z → is_suppressed z ≡ true → BaseAndIndex i j r → Full i j r
    by_data : {i j : ℕ} {q : Register} {r : Registers} → RegisterAt at i q → q.index < 8 → BaseAndIndex i j r → Full i j r
    by_tail : {i j : ℕ} {q : Register} {x : IndexRegister} → AddressAt at i q → Indexes i j x → i + 1 < j → Full i j (registers BaseRegister.Omitted (Some x))

  -- an item of a list: a register, or a range that does not fall. e: where it ends
  pub data Item : ℕ → ℕ → RegisterListItem → ℕ → Type 0 where
    a_single : {i : ℕ} {r : Register} → RegisterAt at i r → Item i (i + 1) (single r) r.span.end
    a_range : {i : ℕ} {r q : Register} → RegisterAt at i r → Sign at Kinds.minus (i + 1) → RegisterAt at (i + 1 + 1) q → r.index ≤ q.index
        → Item i (i + 1 + 1 + 1) (range r q (span r.span.start q.span.end)) q.span.end

  -- joined by `/`
  pub data Items : ℕ → ℕ → List RegisterListItem → ℕ → Type 0 where
    last : {i j e : ℕ} {x : RegisterListItem} → Item i j x e → Items i j (x ∷ []) e
    more : {i j n e z : ℕ} {x : RegisterListItem} {xs : List RegisterListItem} → Item i j x e → Sign at Kinds.slash j → Items (j + 1) n xs z
        → Items i n (x ∷ xs) z

  module _ (allowed : ℕ → List ℕ → Bool) (own : ℕ) where
    -- E
    abbrev pub Expression : ℕ → ℕ → Expr → Type 0
    Expression i j e = Spells at allowed own 1 s.limit i j e

    -- E before `(` either doesn't begin with `(` or is one group, which then widens nothing
    pub data Before : ℕ → Expr → Type 0 where
      bare : {j k : ℕ} {e : Expr} → Sign at k own → (k ≡ Kinds.left_paren → ⊥) → Expression own j e → Before j e
      group : {j : ℕ} {e : Expr} → Sign at Kinds.left_paren own → Expression (own + 1) j e → Sign at Kinds.right_paren j → Before (j + 1) e

    -- `E(` or `(E,`, up to the base
    pub data Displaced : ℕ → Expr → Type 0 where
      before : {j : ℕ} {e : Expr} → Before j e → Sign at Kinds.left_paren j → Displaced (j + 1) e
      inside : {j : ℕ} {e : Expr} → Sign at Kinds.left_paren own → Expression (own + 1) j e → Sign at Kinds.comma j → Displaced (j + 1) e

    -- the same, or `(` alone
    pub data Opening : ℕ → Displacement → Type 0 where
      alone : Sign at Kinds.left_paren own → Opening (own + 1) undisplaced
      displacing : {j : ℕ} {e : Expr} → Displaced j e → Opening j (displaced e 0)

    -- I: empty, `E.s`, `E.s,Bi` or BI
    pub data Inside : ℕ → ℕ → Displacement → Registers → Type 0 where
      empty : {i : ℕ} → Inside i i undisplaced no_registers
      displacement : {i j n size z : ℕ} {e : Expr} → Expression i j e → Sized at 0 j n size z → Inside i n (displaced e size) no_registers
      both : {i j n p size z : ℕ} {e : Expr} {r : Registers} → Expression i j e → Sized at 0 j n size z → Sign at Kinds.comma n → BaseAndIndex (n + 1) p r
          → Inside i p (displaced e size) r
      bases : {i j : ℕ} {r : Registers} → BaseAndIndex i j r → Inside i j undisplaced r

    -- T: empty, `,E.s`, `,X` or `,X,E.s`, X only if I has no index; with X it is postindexed (2), else preindexed (1). The first index is that of I
    pub data Behind : Option IndexRegister → ℕ → ℕ → Option IndexRegister → ℕ → Displacement → Type 0 where
      empty : {i : ℕ} {x : Option IndexRegister} → Behind x i i x 1 undisplaced
      displacement : {i j n size z : ℕ} {e : Expr} {x : Option IndexRegister} → Sign at Kinds.comma i → Expression (i + 1) j e → Sized at 0 j n size z
          → Behind x i n x 1 (displaced e size)
      index : {i j : ℕ} {x : IndexRegister} → Sign at Kinds.comma i → Indexes (i + 1) j x → Behind None i j (Some x) 2 undisplaced
      both : {i j n p size z : ℕ} {e : Expr} {x : IndexRegister} → Sign at Kinds.comma i → Indexes (i + 1) j x → Sign at Kinds.comma j
          → Expression (j + 1) n e → Sized at 0 n p size z → Behind None i p (Some x) 2 (displaced e size)

    -- Spelling j y: from the operand's first place, where its first token starts at the setting's start, up to the place j stands the operand y
    pub data Spelling : ℕ → Operand → Type 0 where
      -- 1: `#E`, `#E.l`
      immediate : {j : ℕ} {e : Expr} (t : Sign at Kinds.hash own) → Expression (own + 1) j e
          → Spelling j (O.immediate e false (span t.token.start (span_e e).end))
      immediate_long : {j : ℕ} {e : Expr} (t : Sign at Kinds.hash own) → Expression (own + 1) j e → (l : Letter at j 3)
          → Spelling (j + 1) (O.immediate e true (span t.token.start l.sign.token.end))
      -- 2, 3, 4: Dn; An or `sp`; special register
      data_register : {r : Register} → RegisterAt at own r → r.index < 8 → Spelling (own + 1) (O.data_register_direct r r.span)
      address_register : {r : Register} → AddressAt at own r → Spelling (own + 1) (O.address_register_direct r r.span)
      special_register : {r : SpecialRegister} (t : Name at own) → special_of t.text ≡ Some r → Spelling (own + 1) (O.special_register (special_number (Some r)) (span_of t.token))
      -- 5, 6, 7: `(An)`; `(An)+`; `-(An)`
      indirect : {r : Register} → Sign at Kinds.left_paren own → AddressAt at (own + 1) r → (c : Sign at Kinds.right_paren (own + 1 + 1))
          → Spelling (own + 1 + 1 + 1) (O.indirect r (span s.start c.token.end))
      postincrement : {r : Register} → Sign at Kinds.left_paren own → AddressAt at (own + 1) r → Sign at Kinds.right_paren (own + 1 + 1)
          → (p : Sign at Kinds.plus (own + 1 + 1 + 1)) → Spelling (own + 1 + 1 + 1 + 1) (O.postincrement r (span s.start p.token.end))
      predecrement : {r : Register} (m : Sign at Kinds.minus own) → Sign at Kinds.left_paren (own + 1) → AddressAt at (own + 1 + 1) r
          → (c : Sign at Kinds.right_paren (own + 1 + 1 + 1)) → Spelling (own + 1 + 1 + 1 + 1) (O.predecrement r (span m.token.start c.token.end))
      -- 8: `E(An)`, `(E,An)`; 9: `(An,R)`, `E(An,R)`, `(E,An,R)`
      displacement : {j : ℕ} {e : Expr} {r : Register} → Displaced j e → AddressAt at j r → (c : Sign at Kinds.right_paren (j + 1))
          → Spelling (j + 1 + 1) (O.displacement e r (span s.start c.token.end))
      index : {j n : ℕ} {d : Displacement} {r : Register} {x : IndexRegister} → Opening j d → AddressAt at j r → Sign at Kinds.comma (j + 1)
          → Indexes (j + 1 + 1) n x → x.suppressed ≡ false → (c : Sign at Kinds.right_paren n) → Spelling (n + 1) (O.index d r x (span s.start c.token.end))
      -- 10: as 8, with PC; 11: as 9, with PC
      counter_displacement : {j : ℕ} {e : Expr} → Displaced j e → CounterAt at j → (c : Sign at Kinds.right_paren (j + 1))
          → Spelling (j + 1 + 1) (O.pc_displacement e (span s.start c.token.end))
      counter_index : {j n : ℕ} {d : Displacement} {x : IndexRegister} → Opening j d → CounterAt at j → Sign at Kinds.comma (j + 1)
          → Indexes (j + 1 + 1) n x → x.suppressed ≡ false → (c : Sign at Kinds.right_paren n) → Spelling (n + 1) (O.pc_index d x (span s.start c.token.end))
      -- 12: 9 or 11 with suppressed X for R
      suppressed_index : {j n : ℕ} {d : Displacement} {r : Register} {x : IndexRegister} → Opening j d → AddressAt at j r → Sign at Kinds.comma (j + 1)
          → Indexes (j + 1 + 1) n x → x.suppressed ≡ true → (c : Sign at Kinds.right_paren n)
          → Spelling (n + 1) (O.full_index d (BaseRegister.Address r) (Some x) 0 undisplaced (span s.start c.token.end))
      counter_suppressed_index : {j n : ℕ} {d : Displacement} {x : IndexRegister} → Opening j d → CounterAt at j → Sign at Kinds.comma (j + 1)
          → Indexes (j + 1 + 1) n x → x.suppressed ≡ true → (c : Sign at Kinds.right_paren n)
          → Spelling (n + 1) (O.full_index d BaseRegister.ProgramCounter (Some x) 0 undisplaced (span s.start c.token.end))
      -- 12: `(F)`; `(E,F)`; `(E.s,Bi)` with size; `([I]T)`
      full : {j : ℕ} {r : Registers} → Sign at Kinds.left_paren own → Full (own + 1) j r → (c : Sign at Kinds.right_paren j)
          → Spelling (j + 1) (O.full_index undisplaced r.base r.index 0 undisplaced (span s.start c.token.end))
      displaced_full : {j n : ℕ} {e : Expr} {r : Registers} → Sign at Kinds.left_paren own → Expression (own + 1) j e → Sign at Kinds.comma j
          → Full (j + 1) n r → (c : Sign at Kinds.right_paren n)
          → Spelling (n + 1) (O.full_index (displaced e 0) r.base r.index 0 undisplaced (span s.start c.token.end))
      sized_full : {j n size : ℕ} {e : Expr} {r : Registers} → Sign at Kinds.left_paren own → Expression (own + 1) j e → Letter at j size
          → Sign at Kinds.comma (j + 1) → BaseAndIndex (j + 1 + 1) n r → (c : Sign at Kinds.right_paren n)
          → Spelling (n + 1) (O.full_index (displaced e size) r.base r.index 0 undisplaced (span s.start c.token.end))
      memory_indirect : {j n indirection : ℕ} {d u : Displacement} {r : Registers} {x : Option IndexRegister} → Sign at Kinds.left_paren own
          → Sign at Kinds.left_bracket (own + 1) → Inside (own + 1 + 1) j d r → Sign at Kinds.right_bracket j → Behind r.index (j + 1) n x indirection u
          → (c : Sign at Kinds.right_paren n)
          → Spelling (n + 1) (O.full_index d r.base x indirection u (span s.start c.token.end))
      -- 13: `E.s`
      absolute : {j n size z : ℕ} {e : Expr} → Expression own j e → Sized at (span_e e).end j n size z → Spelling n (O.absolute e size (span s.start z))
      -- 14: registers and ranges joined by `/`, not one lone register
      list : {j e : ℕ} {xs : List RegisterListItem} → Items own j xs e → own + 1 < j → Spelling j (O.register_list xs (span s.start e))

-- from the place i up to j stands the operand y
pub record Spelled (limit mark : ℕ) (at : ℕ → Place) (allowed : ℕ → List ℕ → Bool) (i j : ℕ) (y : Operand) : Type 0 where
  pub first : Token
  pub text : List ℕ
  pub there : at i ≡ stands first text
  pub spelling : Spelling (setting_from limit mark first) at allowed i j y
