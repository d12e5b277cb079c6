-- How the reader finds its way to a form: what follows the operand's first token decides.
-- Assumes nothing.
use Rattle.std.specs.Prelude.{◌≡◌, Bool, ◌⊎◌, ℕ, ◌+◌, ◌≤◌, ◌<◌, eqb, ltb}
use Rattle.std.proofs.Math.Path.{refl}
use Rattle.std.proofs.Common.{Option, Some, None, sym, ◌∙◌, inl, inr, arith}
use Rattle.std.proofs.Math.Bool.{true, false}
use borrow.Author.Tests.{leb-true, leb-false, le-ltb, lt-ltb}
use Rattle.std.proofs.Math.Dec.{leb}
use Rattle.names.specs.Choice.{both, either}
use Rattle.names.specs.Kinds
use Rattle.names.specs.Places.{Place}
use Rattle.names.specs.declared.registers.Suppressed.{Suppressed}
use Rattle.expressions.specs.declared.reading.Setting.{Setting}
use Rattle.expressions.specs.Reader.{Reader}
use Rattle.expressions.specs.Laws.{holds}
use Rattle.expressions.proofs.Costs.{true_false}
use Rattle.operand.specs.Operand.{is_address, a_register, an_address_register, a_program_counter, unmarked, is_suppressed, size_or_scale, closes, starts_a_full_index, starts_a_base}
use Rattle.operand.specs.declared.forms.Register.{Register}
use Rattle.operand.specs.declared.forms.IndexRegister.{IndexRegister}
use Rattle.operand.specs.declared.forms.Registers.{Registers}
use Rattle.spelling.specs.Signs.{Sign, Name, RegisterAt, register_spelled, SuppressedAt, CounterAt}
use Rattle.spelling.specs.Spelling
use Rattle.spelling.specs.Spelling.{AddressAt, an_address, plain, suppressed, Sized, no_size, a_size, Scaled, no_scale, a_scale, Indexes, index_spelled, BaseAndIndex, Full, by_suppressed, by_data, by_tail}
use Rattle.spelling.proofs.Readings.{Reads, from_here, sees, misses, either_way, comes}
use Rattle.spelling.proofs.Looks.{held, Looks, looks_register, looks_suppressed, suppressed_no_register, suppressed_no_counter, register_no_counter, data_no_address}
use Rattle.spelling.proofs.Parts.{first_of_lem, holds_either, Seen}

-- ---- a base or an index behind a parenthesis

-- what may begin a base: an address register that nothing is attached to, or the program counter
pub data BaseLike (s : Setting) (at : ℕ → Place) (i : ℕ) : Type 0 where
  address : {r : ℕ} → Name at i → Looks s at i (Some r) false None → 8 ≤ r → BaseLike s at i
  counter : Name at i → Looks s at i None true None → BaseLike s at i

-- `)` or a comma
pub record Shut (at : ℕ → Place) (i : ℕ) : Type 0 where
  pub kind : ℕ
  pub sign : Sign at kind i
  pub attached : either (eqb kind Kinds.size_suffix) (eqb kind Kinds.star) ≡ false
  pub shuts : either (eqb kind Kinds.right_paren) (eqb kind Kinds.comma) ≡ true

-- the tail of an index, or the parenthesis behind it
tail : {at : ℕ → Place} {p n : ℕ} {size scale z y b : ℕ} → Sized at b p n size z → {m : ℕ} → Scaled at z n m scale y → Sign at Kinds.right_paren m → (Seen at size_or_scale p) ⊎ (m ≡ p)
unfolding size_or_scale
tail no_size no_scale c = inr refl
tail no_size (a_scale t k q f) c = inl (record { token = t.token; text = t.text; there = t.there; passed = rw t.of refl })
tail (a_size t) sc c = inl (record { token = t.sign.token; text = t.sign.text; there = t.sign.there; passed = rw t.sign.of refl })

close_seen : {at : ℕ → Place} {p : ℕ} (c : Bool) → Sign at Kinds.right_paren p → Seen at (closes true c) p
unfolding closes
close_seen c t = record { token = t.token; text = t.text; there = t.there; passed = rw t.of refl }

comma_seen : {at : ℕ → Place} {p : ℕ} → Sign at Kinds.comma p → Seen at (closes true true) p
unfolding closes
comma_seen t = record { token = t.token; text = t.text; there = t.there; passed = rw t.of refl }

tail_seen : {at : ℕ → Place} {p : ℕ} (b c : Bool) → Seen at size_or_scale p → Seen at (closes b c) p
unfolding closes
tail_seen b c t = record { token = t.token; text = t.text; there = t.there; passed = rw t.passed (last_of (both b (eqb t.token.kind Kinds.right_paren)) (both c (eqb t.token.kind Kinds.comma))) }
  where
    last_of : (x y : Bool) → either x (either y true) ≡ true
    last_of true y = refl
    last_of false true = refl
    last_of false false = refl

module _ {A : Type 0} (s : Setting) {at : ℕ → Place} {i l j : ℕ} {a : A} (hit miss : Unit {0} → Reader A) where
  -- an expression begins neither a full index nor a base
  pub no_full : Looks s at i None false None → Reads (miss tt) at i l j a → Reads (starts_a_full_index s hit miss) at i l j a
  unfolding starts_a_full_index is_suppressed is_address
  no_full k h =
      from_here (misses (omega arith) (k.suppressions is_suppressed refl) (misses (omega arith) k.addresses (misses (omega arith) k.registers h)))

  pub no_start : Looks s at i None false None → Reads (miss tt) at i l j a → Reads (starts_a_base hit miss) at i l j a
  unfolding starts_a_base
  no_start k h = misses (omega arith) (holds_either a_register a_program_counter (at i) ∙ rw (k.registers, k.counters) refl) h

  -- nor does a base begin a full index
  pub base_not_full : BaseLike s at i → Shut at (i + 1) → Reads (miss tt) at i l j a → Reads (starts_a_full_index s hit miss) at i l j a
  unfolding starts_a_full_index is_suppressed is_address closes size_or_scale
  base_not_full (address {r} t₂ k low) t h =
      from_here (misses (omega arith) (k.suppressions is_suppressed refl) (either_way (omega arith)
      (λ n x e q. misses refl (comes (closes false false) t.sign (rw t.sign.of t.attached)) h)
      λ q. absurd (full_address (sym k.addresses ∙ q))))
    where
      full_address : leb 8 r ≡ false → ⊥
      full_address q = omega (arith, leb-false 8 r q)
  base_not_full (counter t₂ k) t h =
      from_here (misses (omega arith) (k.suppressions is_suppressed refl) (misses (omega arith) k.addresses (misses (omega arith) k.registers h)))

  pub base_starts_lem : BaseLike s at i → Shut at (i + 1) → Reads (hit tt) at i l j a → Reads (starts_a_base hit miss) at i l j a
  unfolding starts_a_base
  base_starts_lem b t h = either_way (omega arith)
      (λ n x e q. sees refl t.sign.there refl (sees refl t.sign.there (rw t.sign.of t.shuts) h))
      λ q. absurd (seen b (sym (holds_either a_register a_program_counter (at i)) ∙ q))
    where
      seen : BaseLike s at i → either (holds a_register (at i)) (holds a_program_counter (at i)) ≡ false → ⊥
      seen (address t k low) q = true_false (rw k.registers at q)
      seen (counter t₂ k) q = true_false (rw (k.registers, k.counters) at q)

  -- ---- F

  -- Z, which any of the four may follow
  pub suppressed_starts : {z : Option Suppressed} → SuppressedAt s at i z → is_suppressed z ≡ true → Seen at (closes true true) (i + 1) → Reads (hit tt) at i l j a
      → Reads (starts_a_full_index s hit miss) at i l j a
  unfolding starts_a_full_index is_suppressed
  suppressed_starts z e t h =
      let k = looks_suppressed z e in
      from_here (sees (omega arith) z.name.there (held (unmarked s i is_suppressed) z.name (k.suppressions is_suppressed refl ∙ e)) (sees refl t.there t.passed h))

  -- a register: a data register needs `)` or a tail, an address register a tail
  register_starts : {r : Register} → RegisterAt at i r → Seen at (closes (ltb r.index 8) false) (i + 1) → Reads (hit tt) at i l j a
      → Reads (starts_a_full_index s hit miss) at i l j a
  unfolding starts_a_full_index is_suppressed is_address
  register_starts (register_spelled {r = r} t q) c h = go (leb 8 r) refl
    where
      k : Looks s at i (Some r) false None
      k = looks_register (register_spelled t q)

      go : (b : Bool) → leb 8 r ≡ b → Reads (starts_a_full_index s hit miss) at i l j a
      go true e =
          from_here (misses (omega arith) (k.suppressions is_suppressed refl) (sees (omega arith) t.there (held an_address_register t (k.addresses ∙ e))
          (sees refl c.there (rw (le-ltb r 8 (leb-true 8 r e)) at c.passed) h)))
      go false e =
          from_here (misses (omega arith) (k.suppressions is_suppressed refl) (misses (omega arith) (k.addresses ∙ e) (sees (omega arith) t.there (held a_register t k.registers)
          (sees refl c.there (rw (lt-ltb r 8 (leb-false 8 r e)) at c.passed) h))))

  index_starts : {n : ℕ} {x : IndexRegister} → Indexes s at i n x → (x.register.index < 8) ⊎ (i + 1 < n) → Sign at Kinds.right_paren n → Reads (hit tt) at i l j a
      → Reads (starts_a_full_index s hit miss) at i l j a
  unfolding is_suppressed
  index_starts (index_spelled {n = n} (plain {r = r} p) sz sc) f c h = go (tail sz sc c)
    where
      go : (Seen at size_or_scale (i + 1)) ⊎ (n ≡ i + 1) → Reads (starts_a_full_index s hit miss) at i l j a
      go (inl t) = register_starts p (tail_seen _ false t) h
      go (inr e) = let small = first_of_lem f (omega arith) in register_starts p (rw (lt-ltb r.index 8 small, ← e) (close_seen false c)) h
  index_starts (index_spelled {n = n} (suppressed z) sz sc) f c h = go (tail sz sc c)
    where
      go : (Seen at size_or_scale (i + 1)) ⊎ (n ≡ i + 1) → Reads (starts_a_full_index s hit miss) at i l j a
      go (inl t) = suppressed_starts z refl (tail_seen true true t) h
      go (inr e) = suppressed_starts z refl (rw (← e) (close_seen true c)) h

  -- any BI that begins with neither An nor PC
  bases_start : {n : ℕ} {r : Registers} → ((q : Register) → AddressAt at i q → ⊥) → (CounterAt at i → ⊥) → BaseAndIndex s at i n r → Sign at Kinds.right_paren n
      → Reads (hit tt) at i l j a → Reads (starts_a_full_index s hit miss) at i l j a
  unfolding is_suppressed
  bases_start f g (Spelling.base (Spelling.address p)) c h = absurd (f _ p)
  bases_start f g (Spelling.base (Spelling.counter p)) c h = absurd (g p)
  bases_start f g (Spelling.base (Spelling.suppressed_address z low)) c h = suppressed_starts z refl (close_seen true c) h
  bases_start f g (Spelling.base (Spelling.suppressed_counter z)) c h = suppressed_starts z refl (close_seen true c) h
  bases_start f g (Spelling.base_index (Spelling.address p) k x) c h = absurd (f _ p)
  bases_start f g (Spelling.base_index (Spelling.counter p) k x) c h = absurd (g p)
  bases_start f g (Spelling.base_index (Spelling.suppressed_address z low) k x) c h = suppressed_starts z refl (comma_seen k) h
  bases_start f g (Spelling.base_index (Spelling.suppressed_counter z) k x) c h = suppressed_starts z refl (comma_seen k) h
  bases_start f g (Spelling.index x e) c h = index_starts x e c h

  pub full_starts : {n : ℕ} {r : Registers} → Full s at i n r → Sign at Kinds.right_paren n → Reads (hit tt) at i l j a → Reads (starts_a_full_index s hit miss) at i l j a
  full_starts (by_suppressed z e b) c h = bases_start (λ r p. elim p [ an_address q low ↦ suppressed_no_register s z e q ]) (suppressed_no_counter s z e) b c h
  full_starts (by_data p small b) c h = bases_start (λ r q. elim q [ an_address g low ↦ data_no_address s p small g low ]) (register_no_counter s p) b c h
  full_starts (by_tail p x long) c h = index_starts x (inr long) c h

pub full_bases : {s : Setting} {at : ℕ → Place} {i n : ℕ} {r : Registers} → Full s at i n r → BaseAndIndex s at i n r
full_bases (by_suppressed z e b) = b
full_bases (by_data p small b) = b
full_bases (by_tail p x long) = Spelling.index x (inr long)
