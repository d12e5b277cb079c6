-- Every operand that is read in silence is spelled so, from its first token up to the cursor.
-- Assumes nothing.
use Rattle.std.specs.Prelude.{◌≡◌, Bool, true, false, ℕ, ◌+◌, ◌≤◌, ◌<◌, eqb, leb, Some, None}
use Rattle.std.proofs.Math.Path.{refl}
use Rattle.std.proofs.Common.{Option, sym, ◌∙◌, ap, add-zero, eqb-true, leb-true, leb-false}
use mathlib.Core.List.{List, []}
use native.Mathlib.Omega.{arith}
use Rattle.names.specs.Choice.{pick}
use Rattle.names.specs.Kinds
use Rattle.names.specs.Places.{Place, stands}
use Rattle.names.specs.Registers.{special_of}
use Rattle.names.specs.Reserved.{is_special}
use Rattle.names.specs.Cases.{size_number}
use Rattle.names.specs.declared.tokens.Token.{Token}
use Rattle.names.specs.declared.registers.SpecialRegister.{SpecialRegister}
use Rattle.names.specs.declared.sizes.SizeSuffix.{SizeSuffix}
use Rattle.names.specs.declared.sizes.SizeSuffix.TheVariants.{Byte, Word, Long, Short}
use Rattle.records.specs.Shapes
use Rattle.records.specs.Spans.{span, span_of}
use Rattle.expressions.specs.Trees.{Expr}
use Rattle.expressions.specs.declared.reading.Setting.{Setting}
use Rattle.expressions.specs.Reader.{is}
use Rattle.expressions.specs.Expressions.{read, reported, absent, Suffix, fuel}
use Rattle.expressions.specs.Laws.{holds}
use Rattle.expressions.proofs.Costs.{true_false}
use Rattle.expressions.specs.Fuel.{fuel_enough}
use Rattle.operand.specs.Operands.{Operand}
use Rattle.operand.specs.Operands as O
use Rattle.operand.specs.Operand
use Rattle.operand.specs.Operand.{a_register, register_from, operand_from}
use Rattle.operand.specs.declared.forms.Register.{Register}
use Rattle.spelling.specs.Signs.{Sign, RegisterAt, unreserved}
use Rattle.spelling.specs.Spelling
use Rattle.spelling.specs.Spelling.{Letter, AddressAt, an_address, Spelling}
use Rattle.spelling.proofs.Readings.{comes}
use Rattle.spelling.proofs.Names
use Rattle.spelling.specs.Silence.{Silent, Quiet}
use Rattle.spelling.proofs.Silence.{call, silent_choose}
use Rattle.spelling.proofs.Sound.{signed, expression_spelled}
use Rattle.spelling.proofs.Found.{found_register, SuffixAt, a_suffix, no_suffix, suffix_sound}
use Rattle.spelling.proofs.Enclosed.{ListAt, list_at, list_sound}
use Rattle.spelling.proofs.Grouped.{Plain, Found, CloseAt, close_at, close_sound, base_sound, finish_sound, stood, grouped_sound}

-- a known size is not 0
sized_zero : (z : SizeSuffix) → size_number (Some z) ≡ 0 → ⊥
sized_zero Byte h = omega arith
sized_zero Word h = omega arith
sized_zero Long h = omega arith
sized_zero Short h = omega arith

abbrev long : {at : ℕ → Place} {j n : ℕ} → Letter at j n → n ≡ 3 → Letter at j 3
long t e = record { sign = t.sign; size = t.size; known = t.known; number = t.number ∙ e }

module _ (s : Setting) (at : ℕ → Place) (count : ℕ) (ends : (j : ℕ) (k : Token) (x : List ℕ) → at j ≡ stands k x → j < count) (few : count ≤ fuel) (own : ℕ) where
  -- ---- 1: immediate

  immediate_sized : {j n : ℕ} (m : ℕ) {e : Expr} {z : Suffix} (t : Sign at Kinds.hash own) → Plain s at count ends few own (own + 1) j e → SuffixAt at j n z
      → Quiet (Operand.immediate_size s t.token e z) at (Found s at count ends few own) n m
  unfolding Silent Operand.immediate_size Operand.malformed
  immediate_sized m t h (a_suffix {n = n} z) = record {
    all = silent_choose (eqb n 3) _ _ _ _ _ _ (λ q. Spelling.immediate_long t h (long z (eqb-true n 3 q))) λ q.
        silent_choose (eqb n 0) _ _ _ _ _ _ (λ f. absurd (sized_zero z.size (z.number ∙ eqb-true n 0 f))) λ f. tt;
  }
  immediate_sized m t h (no_suffix q) = record { all = Spelling.immediate t h }

  immediate_sound : (t : Sign at Kinds.hash own) (l : ℕ) → Quiet (Operand.parse_immediate s t.token) at (Found s at count ends few own) (own + 1) l
  unfolding Silent Operand.parse_immediate Operand.or_absent
  immediate_sound t l = record {
    all = call (expression_spelled at count ends own few s.limit (own + 1) l (omega arith, λ z. absurd (omega arith))) λ j m. elim [
      | read e ↦ λ a h. call (suffix_sound at _ j m) λ n m₂ z b g. (immediate_sized m₂ t h.1 g).all
      | reported ↦ λ a h. absurd h
      | absent ↦ λ a h. tt
    ];
  }

  -- ---- 2, 3, 14: a register and what may follow it

  direct_spelled : (r : Register) → RegisterAt at own r → (b : Bool) → leb 8 r.index ≡ b
      → Spelling s at unreserved own (own + 1) (pick b (O.address_register_direct r r.span) (O.data_register_direct r r.span))
  direct_spelled r p true q = Spelling.address_register (an_address p (leb-true 8 _ q))
  direct_spelled r p false q = Spelling.data_register p (leb-false 8 _ q)

  list_spelled : {j : ℕ} {y : Operand} → ListAt s at [] own j y → own + 1 < j → Spelling s at unreserved own j y
  list_spelled (list_at h) long = Spelling.list h long

  register_sound : (k : Token) (x : List ℕ) → at own ≡ stands k x → a_register k x ≡ true → Quiet (Operand.parse_register_operand s (register_from k x)) at (Found s at count ends few own) (own + 1) k.end
  unfolding Silent Operand.parse_register_operand Operand.parse_register_list Operand.register_direct register_from holds
  register_sound k x e q = record {
    all = (
      (λ t y e₂ q₂. call (list_sound s at fuel [] (register_from k x) own (found_register e q)) λ j m. elim [
        | Some v ↦ λ a h. list_spelled h.0 (h.2 (omega (arith, fuel_enough)) (rw (rw (add-zero (own + 1)) at e₂) q₂))
        | None ↦ λ a h. tt
      ]),
      λ q₂. direct_spelled (register_from k x) (found_register e q) (leb 8 (register_from k x).index) refl,
    );
  }

  -- ---- 4: a special register

  special_spelled : {k : Token} {x : List ℕ} → at own ≡ stands k x → eqb k.kind Kinds.identifier ≡ true → (n : Option SpecialRegister) → special_of x ≡ n → is_special n ≡ true
      → Spelling s at unreserved own (own + 1) (O.special_register (Operand.special_index n) (span_of k))
  unfolding Operand.special_index
  special_spelled e q (Some n) f g = Spelling.special_register (signed Kinds.identifier e q) f
  special_spelled e q None f g = absurd (true_false (sym g))

  -- ---- 7: predecrement

  predecrement_closed : {r : Register} {m z : ℕ} (t : Sign at Kinds.minus own) → Sign at Kinds.left_paren (own + 1) → AddressAt at (own + 1 + 1) r → CloseAt s at count ends few own (own + 1 + 1 + 1) m z
      → Spelling s at unreserved own m (O.predecrement r (span t.token.start z))
  predecrement_closed t p r (close_at c) = Spelling.predecrement t p r c

  predecrement_sound : {x : List ℕ} {r : Token} (t : Sign at Kinds.minus own) (p : Sign at Kinds.left_paren (own + 1)) → at (own + 1 + 1) ≡ stands r x → a_register r x ≡ true → (l : ℕ)
      → Quiet (Operand.parse_predecrement s t.token p.token r x) at (Found s at count ends few own) own l
  unfolding Silent Operand.parse_predecrement Operand.over Operand.predecrement_close Operand.or_none Operand.not_an_address_register
  predecrement_sound {x} {r} t p e q l = record {
    all = (
      (λ k₁ x₁ e₁ q₁ w₁. (
        (λ k₂ x₂ e₂ q₂ w₂. (
          (λ k₃ x₃ e₃ q₃ w₃. silent_choose (leb 8 (register_from r x).index) _ _ _ _ _ _
              (λ f. call (close_sound s at count ends few own p.token Shapes.predecrement _ _) λ n m. elim [ Some z ↦ λ a g. predecrement_closed t p (an_address (found_register e q) (leb-true 8 _ f)) g | None ↦ λ a g. tt ])
              λ f. tt),
          λ q₃. absurd (stood s at count ends few own e q₃),
        )),
        λ q₂. absurd (stood s at count ends few own p.there q₂),
      )),
      λ q₁. absurd (stood s at count ends few own t.there q₁),
    );
  }

  -- ---- by the first token

  module _ (k₀ : Token) (x₀ : List ℕ) (there : at own ≡ stands k₀ x₀) where
    abbrev first : Sign at k₀.kind own
    first = record { token = k₀; text = x₀; there = there; of = refl }

    not_paren : holds (is Kinds.left_paren) (at own) ≡ false → k₀.kind ≡ Kinds.left_paren → ⊥
    not_paren p z = true_false (sym (comes {at = at} {i = own} (is Kinds.left_paren) first (ap (λ k. eqb k Kinds.left_paren) z)) ∙ p)

    expression_operand_sound : holds (is Kinds.left_paren) (at own) ≡ false → (l : ℕ) → Quiet (Operand.parse_expression_operand s) at (Found s at count ends few own) own l
    unfolding Silent Operand.parse_expression_operand Operand.or_absent Operand.no_expression Operand.displacement_tail
    expression_operand_sound p l = record {
      all = call (expression_spelled at count ends own few s.limit own l (omega arith, λ z. p)) λ j m. elim [
        | read e ↦ λ a h. (
          (λ k x e₂ q w. (base_sound s at count ends few own k k.end (Spelling.displacing (Spelling.before (Spelling.bare first (not_paren p) h.1) (signed Kinds.left_paren e₂ q)))).all),
          λ q. (finish_sound s at count ends few own e m h.1).all,
        )
        | reported ↦ λ a h. absurd h
        | absent ↦ λ a h. ((λ k x e q. tt), λ q. tt)
      ];
    }

    pub operand_sound : (l : ℕ) → Quiet (operand_from s) at (Found s at count ends few own) own l
    unfolding Silent operand_from Operand.minus_operand Operand.name_or_expression
    operand_sound l = record {
      all = (
        (λ k x e q. tt),
        λ _. (
          (λ k x e q w. (immediate_sound (signed Kinds.hash e q) k.end).all),
          λ _. (
            (λ k x e q w. (grouped_sound s at count ends few own (signed Kinds.left_paren e q) k.end).all),
            λ p. (
              (λ k x e q. (
                (λ k₂ x₂ e₂ q₂. (
                  (λ k₃ x₃ e₃ q₃. (predecrement_sound (signed Kinds.minus (rw (add-zero own) at e) q) (signed Kinds.left_paren e₂ q₂) (ap at two ∙ e₃) q₃ l).all),
                  λ _. (expression_operand_sound p l).all,
                )),
                λ _. (expression_operand_sound p l).all,
              )),
              λ _. (
                (λ k x e q w. (register_sound k x e q).all),
                λ _. (
                  (λ k x e q w. special_spelled e (Names.both_first _ (is_special (special_of x)) q) (special_of x) refl (Names.both_second (eqb k.kind Kinds.identifier) _ q)),
                  λ _. (expression_operand_sound p l).all,
                ),
              ),
            ),
          ),
        ),
      );
    }
      where
        two : own + 1 + 1 ≡ own + 2
        two = omega arith
