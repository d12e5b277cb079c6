-- What begins a full index: what the reader sees is what the grammar asks.
-- Assumes nothing.
use Rattle.std.specs.Prelude.{◌≡◌, true, false, ◌⊎◌, ℕ, ◌+◌, ◌<◌, eqb}
use Rattle.std.proofs.Math.Path.{refl}
use Rattle.std.proofs.Common.{Option, sym, ◌∙◌, inl, inr, add-zero, leb-false}
use Rattle.names.specs.Kinds
use Rattle.names.specs.Places.{Place}
use Rattle.names.specs.declared.registers.Suppressed.{Suppressed}
use Rattle.expressions.specs.declared.reading.Setting.{Setting}
use Rattle.expressions.specs.Reader.{Reader}
use Rattle.expressions.specs.Laws.{holds}
use Rattle.expressions.proofs.Costs.{true_false}
use Rattle.operand.specs.Operand.{is_address, is_suppressed, an_address_register, size_or_scale, closes, starts_a_full_index}
use Rattle.operand.specs.declared.forms.Register.{Register}
use Rattle.operand.specs.declared.forms.IndexRegister.{IndexRegister}
use Rattle.operand.specs.declared.forms.Registers.{Registers}
use Rattle.spelling.specs.Signs.{Sign, RegisterAt, SuppressedAt}
use Rattle.spelling.specs.Spelling
use Rattle.spelling.specs.Spelling.{AddressAt, an_address, Indexes, index_spelled, plain, suppressed, BaseAndIndex, Full, by_suppressed, by_data, by_tail, Spelling}
use Rattle.spelling.proofs.Readings.{comes}
use Rattle.spelling.proofs.Looks.{looks_register, data_no_address, suppressed_no_register}
use Rattle.spelling.specs.Silence.{Silent}
use Rattle.spelling.proofs.Found.{found_register, found_address, found_suppressed, suppressed_passes}

module _ (s : Setting) (at : ℕ → Place) where
  pub data Hit (i : ℕ) : Type 0 where
    hit_suppressed : {z : Option Suppressed} → SuppressedAt s at i z → is_suppressed z ≡ true → Hit i
    hit_address : {r : Register} → AddressAt at i r → holds size_or_scale (at (i + 1)) ≡ true → Hit i
    hit_data : {r : Register} → RegisterAt at i r → holds an_address_register (at i) ≡ false → Hit i

  tailed : {i k : ℕ} → Sign at k i → eqb k Kinds.size_suffix ≡ false → eqb k Kinds.star ≡ false → holds size_or_scale (at i) ≡ true → ⊥
  unfolding size_or_scale
  tailed t a b h = true_false (sym h ∙ comes size_or_scale t (rw (t.of, a, b) refl))

  -- an index that begins with an address register, where X is no B
  address_tail : {i j : ℕ} {r : Register} {x : IndexRegister} → AddressAt at i r → Indexes s at i j x → (x.register.index < 8) ⊎ (i + 1 < j) → i + 1 < j
  unfolding is_suppressed
  address_tail (an_address p low) x (inr long) = long
  address_tail (an_address p low) (index_spelled (plain q) sz sc) (inl small) = absurd (data_no_address s q small p low)
  address_tail (an_address p low) (index_spelled (suppressed z) sz sc) (inl small) = absurd (suppressed_no_register s z refl p)

  pub full_found : {i j : ℕ} {r : Registers} → Hit i → BaseAndIndex s at i j r → Sign at Kinds.right_paren j → Full s at i j r
  unfolding is_address
  full_found (hit_suppressed z e) b c = by_suppressed z e b
  full_found (hit_data {r = q} p n) b c = by_data p (leb-false 8 q.index (sym (looks_register {s = s} p).addresses ∙ n)) b
  full_found (hit_address p t) (Spelling.base b) c = absurd (tailed c refl refl t)
  full_found (hit_address p t) (Spelling.base_index b k x) c = absurd (tailed k refl refl t)
  full_found (hit_address p t) (BaseAndIndex.index x f) c = by_tail p x (address_tail p x f)

  pub starts_sound : {A : Type 0} (hit miss : Unit {0} → Reader A) (Q : ℕ → ℕ → A → Type 0) (i l : ℕ) → (Hit i → Silent (hit tt) at Q i l) → Silent (miss tt) at Q i l
      → Silent (starts_a_full_index s hit miss) at Q i l
  unfolding Silent starts_a_full_index closes holds
  starts_sound hit miss Q i l f g = (
    (λ k x e q. ((λ t y e₂ q₂. f (hit_suppressed (found_suppressed s i k x is_suppressed q (rw (add-zero i) at e) refl) (suppressed_passes s i k x is_suppressed q))), λ q₂. g)),
    λ _. (
      (λ k x e q. ((λ t y e₂ q₂. f (hit_address (found_address (rw (add-zero i) at e) q) (rw e₂ q₂))), λ q₂. g)),
      λ n. ((λ k x e q. ((λ t y e₂ q₂. f (hit_data (found_register (rw (add-zero i) at e) q) (rw (add-zero i) at n))), λ q₂. g)), λ _. g),
    ),
  )
