-- What the terms of one token tell.
-- Assumes nothing.
use Rattle.std.specs.Prelude.{Option, Some, None, Err}
use mathlib.Core.Path.{◌≡◌, refl, sym, ◌∙◌, ap, subst}
use mathlib.Core.Bool.{Bool, true, false}
use mathlib.Core.List.{List, append-nil}
use Prim.Native.Nat.{ℕ, ◌+◌, ◌*◌, ◌/◌, ◌%◌, ◌<◌}
use native.Mathlib.Nat.{add-zero, div-eq_of_lt, add-mul-div_left, div-add-mod}
use native.Mathlib.Omega.{arith}
use borrow.Author.Tests.{ne_eqb}
use lib.ListN.{take}
use Rattle.names.specs.Kinds
use Rattle.names.specs.Registers.{reserved}
use Rattle.names.specs.Tokens.{token_at}
use Rattle.names.specs.Places.{text_of}
use Rattle.names.specs.Numbers.{number_of}
use Rattle.names.specs.declared.tokens.Token.{Token}
use Rattle.records.specs.Spans.{span_of, span_or}
use Rattle.expressions.specs.Trees.{Expr, number, character_literal, symbol, current_address, span_e, size}
use Rattle.records.specs.declared.spans.Span.{Span}
use Rattle.records.specs.declared.diagnostics.Diagnostic.{Diagnostic}
use Rattle.records.specs.declared.counters.Counters.{Counters}
use Rattle.expressions_code.specs.declared.terms.TermError.TheVariants as errors
use Rattle.records.specs.Diagnostics.{nesting_too_deep, register_in_expression}
use Rattle.expressions.specs.Reader.{Reader, answer, raise}
use Rattle.expressions.specs.Told.{Raised, Told}
use Rattle.expressions.specs.Paths.{counted, answered, hereby, raised, bound_as, hit, miss, seen, beyond}
use Rattle.expressions.specs.Expressions.{Term, read, reported, absent, number_term, named, leaf_term, too_deep}
use Rattle.expressions.proofs.Costs.{size_pos}
use Rattle.records.specs.Nodes.{node_record, words, own}
use Rattle.expressions.specs.Records.{nodes}
use Rattle.records.specs.Counters.{stepped, Over, counters_are, over_is}
use Rattle.expressions_code.specs.Numbers.{ValueTold, value_told, value_stays}
use Rattle.expressions_code.specs.Terms.{Parsed, parsed_of, size_t, nodes_t, Held, Said, LeafTold, SymbolTold, DeepTold, ReaderTold, TokenTold, DepthTold, Spared}

-- ---- a term without nodes

pub held_none : {N N' : List ℕ} {n : ℕ} {r : Counters} (v : Term) → size_t v ≡ 0 → r.nodes ≡ n → take (10 * n) N' ≡ take (10 * n) N → Held N N' n v r
unfolding size_t nodes_t
held_none (read e) z m k = absurd (omega (arith, size_pos e))
held_none reported z m k = record { total = omega (arith, m); bytes = rw m (k ∙ sym (append-nil _)) }
held_none absent z m k = record { total = omega (arith, m); bytes = rw m (k ∙ sym (append-nil _)) }

pub deep_raised : {D D' : List ℕ} {c : Counters} {x : Diagnostic} {v_r : Parsed} {r : Counters} → DeepTold D D' c x v_r r → Raised D D' c x r
deep_raised {r = r} h = record { counters = counters_are r _ _ _ _ h.at h.end h.same h.push.next; more = h.push.more }

-- a term that has failed
pub report_told : {L T N D D' : List ℕ} {c : Counters} {x : Diagnostic} {v_r : Parsed} {r : Counters} → DeepTold D D' c x v_r r → Said (raise x (answer reported)) L T N D N D' c v_r r
unfolding parsed_of size_t
report_told h = raised (deep_raised h) (answered h.what refl (held_none reported refl h.same refl))

-- nothing is read
pub absent_told : {L T N D : List ℕ} {c : Counters} → Said (answer absent) L T N D N D c (Err errors.Absent) c
unfolding parsed_of size_t
absent_told = answered refl refl (held_none absent refl refl refl)

-- ---- a leaf

-- a name's or a literal's own span, as a number of eight bytes
own_bytes : (s : Span) → s.start < 65536 → s.end < 65536 → words 4 (s.start + 65536 * s.end) ≡ own s
unfolding words
own_bytes s a b =
    let d₀ : s.start / 65536 ≡ 0 = div-eq_of_lt a in
    let d₁ : (s.start + 65536 * s.end) / 65536 ≡ s.end = add-mul-div_left s.start s.end {y = 65536} (omega arith) ∙ omega (arith, d₀) in
    let d₂ : s.end / 65536 ≡ 0 = div-eq_of_lt b in
    let e₀ : (s.start + 65536 * s.end) % 65536 ≡ s.start = omega (arith, d₁, div-add-mod (s.start + 65536 * s.end) 65536) in
    let e₁ : s.end % 65536 ≡ s.end = omega (arith, d₂, div-add-mod s.end 65536) in
    rw (e₀, d₁, e₁, d₂)

-- the node e
leaf_told : {L T N N' D : List ℕ} {c : Counters} {v_r : Parsed} {r : Counters} {kind detail value : ℕ} {s : Span} (e : Expr) → LeafTold N N' c kind detail s value v_r r
    → nodes c.nodes e ≡ node_record kind detail 65535 65535 s (words 4 value) → span_e e ≡ s → size e ≡ 1 → Said (answer (read e)) L T N D N' D c v_r r
unfolding parsed_of size_t nodes_t
leaf_told e h b sp one = counted h.at h.end h.seen (answered (rw sp h.what) refl (record { total = rw one h.put.next; bytes = rw b h.put.bytes }))

-- ---- numbers and names

pub number_read : (k : Token) (x : List ℕ) {N N' D D' : List ℕ} {c c₁ : Counters} {s : Span} {v : ℕ} {v_r : Parsed} {r : Counters} → c.diagnostics < 65535 → ValueTold D D' c k (number_of k.detail x) v c₁ → s ≡ span_of k
    → LeafTold N N' c₁ 1 k.detail s v v_r r → ReaderTold (number_term k x) N D N' D' c v_r r
unfolding number_term nodes span_e size
number_read k x {N} {N'} {D' = D'} {c₁ = c₁} {v = v} {v_r = v_r} {r = r} room t g h =
    let w = value_stays t in
    let e = number k.detail v (span_of k) in
    record {
      told = λ L T. bound_as (value_told (number_of k.detail x) room t) (subst (λ m. Told parsed_of (Held N N' m) (answer (read e)) L T D' D' c₁ v_r r) w.1 (leaf_told e (rw g at h) refl refl refl));
      stays = h.at ∙ w.0;
      past = λ j b. h.put.past j (omega (arith, b, w.1));
    }

-- the code has the text as y, and finds b of it
module _ {N D : List ℕ} {c : Counters} (k : Token) {b : Bool} {x y : List ℕ} (found : b ≡ reserved y) (text : y ≡ x) where
  pub name_reserved : {D' : List ℕ} {v_r : Parsed} {r : Counters} {s : Span} {z : Diagnostic} → b ≡ true → s ≡ span_of k → z ≡ register_in_expression s
      → DeepTold D D' c z v_r r → ReaderTold (named k (reserved x)) N D N D' c v_r r
  unfolding named
  name_reserved {z = z} e g q h = record {
    told = λ L T. rw (← text, ← found, e) (report_told (rw (q ∙ ap register_in_expression g) at h));
    stays = h.at;
    past = λ j b. refl;
  }

  pub name_read : {N' : List ℕ} {v_r : Parsed} {r : Counters} {s : Span} → b ≡ false → s ≡ span_of k → SymbolTold N N' c s v_r r → ReaderTold (named k (reserved x)) N D N' D c v_r r
  unfolding named nodes span_e size
  name_read e g h = record {
    told = λ L T. let w = rw g at h in rw (← text, ← found, e) (leaf_told (symbol (span_of k) (span_of k)) w.0 (rw (own_bytes (span_of k) w.1 w.2)) refl refl);
    stays = h.0.at;
    past = h.0.put.past;
  }

-- ---- a term of one token, by its kind

stepped_leaf : {c q : Counters} {k : Token} → c.at < 1023 → Over c k q → q ≡ stepped c k
stepped_leaf low over = over_is (omega (arith, low)) over

spared : {N N' : List ℕ} {c q r : Counters} {k : Token} {v_r : Parsed} {s : Span} {kind detail v : ℕ} → c.at < 1023 → Over c k q → LeafTold N N' q kind detail s v v_r r → Spared N N' c r
spared low over h j b = h.put.past j (omega (arith, b, h.at, low, over))

token_spared : {p : Reader Term} {N D N' D' : List ℕ} {c q r : Counters} {k : Token} {v_r : Parsed} → c.at < 1023 → Over c k q → ReaderTold p N D N' D' q v_r r → Spared N N' c r
token_spared low over h j b = h.past j (omega (arith, b, h.stays, low, over))

module _ {L N D : List ℕ} {c : Counters} {k : Token} where
  module _ {N' : List ℕ} {v_r : Parsed} {r : Counters} {s : Span} {q : Counters} (low : c.at < 1023) (over : Over c k q) (sp : s ≡ span_of k) where
    pub star_told : k.kind ≡ Kinds.star → LeafTold N N' q 4 0 s 0 v_r r → TokenTold leaf_term L k N D N' D c v_r r
    unfolding leaf_term nodes span_e size words
    star_told e h = record { told = λ T there. hit there (rw e) refl (leaf_told (current_address (span_of k)) (rw (stepped_leaf low over, sp) at h) refl refl refl); past = spared low over h }

    own_told : {v : ℕ} {T : List ℕ} (e : Expr) {kind detail : ℕ} → (v ≡ s.start + 65536 * s.end) × (s.start < 65536) × (s.end < 65536) → LeafTold N N' q kind detail s v v_r r
        → nodes c.nodes e ≡ node_record kind detail 65535 65535 (span_of k) (own (span_of k)) → span_e e ≡ span_of k → size e ≡ 1 → Said (answer (read e)) L T N D N' D (stepped c k) v_r r
    own_told e w h b f g = let z = rw sp at w in leaf_told e (rw (stepped_leaf low over, sp) at h) (b ∙ rw (z.0, own_bytes (span_of k) z.1 z.2)) f g

    pub string_told : {v : ℕ} → (v ≡ s.start + 65536 * s.end) × (s.start < 65536) × (s.end < 65536) → k.kind ≡ Kinds.string_literal → LeafTold N N' q 2 k.detail s v v_r r → TokenTold leaf_term L k N D N' D c v_r r
    unfolding leaf_term nodes span_e size
    string_told w e h = record {
      told = λ T there. miss there (rw e) (miss there (rw e) (hit there (rw e) refl (own_told (character_literal k.detail (span_of k) (span_of k)) w h refl refl refl)));
      past = spared low over h;
    }

    pub local_told : k.kind ≡ Kinds.local_identifier → SymbolTold N N' q s v_r r → TokenTold leaf_term L k N D N' D c v_r r
    unfolding leaf_term nodes span_e size
    local_told e h = record {
      told = λ T there. miss there (rw e) (miss there (rw e) (miss there (rw e) (miss there (rw e) (hit there (rw e) refl (own_told (symbol (span_of k) (span_of k)) (refl, h.1, h.2) h.0 refl refl refl)))));
      past = spared low over h.0;
    }

  module _ {N' D' : List ℕ} {v_r : Parsed} {r : Counters} {q : Counters} (low : c.at < 1023) (over : Over c k q) where
    pub number_told : k.kind ≡ Kinds.number → ReaderTold (number_term k (text_of L k.start k.end)) N D N' D' q v_r r → TokenTold leaf_term L k N D N' D' c v_r r
    unfolding leaf_term
    number_told e h = record { told = λ T there. miss there (rw e) (hit there (rw e) refl ((rw (stepped_leaf low over) at h).told L T)); past = token_spared low over h }

    pub name_told : k.kind ≡ Kinds.identifier → ReaderTold (named k (reserved (text_of L k.start k.end))) N D N' D' q v_r r → TokenTold leaf_term L k N D N' D' c v_r r
    unfolding leaf_term
    name_told e h = record { told = λ T there. miss there (rw e) (miss there (rw e) (miss there (rw e) (hit there (rw e) refl ((rw (stepped_leaf low over) at h).told L T)))); past = token_spared low over h }

  pub error_told : {q : Counters} → c.at < 1023 → Over c k q → k.kind ≡ Kinds.error → TokenTold leaf_term L k N D N D c (Err errors.Reported) q
  unfolding leaf_term parsed_of size_t
  error_told low over e = record {
    told = λ T there. miss there (rw e) (miss there (rw e) (miss there (rw e) (miss there (rw e) (miss there (rw e) (hit there (rw e) (stepped_leaf low over) (answered refl refl (held_none reported refl over.nodes refl)))))));
    past = λ j b. refl;
  }

  pub other_told : (k.kind ≡ Kinds.star → ⊥) → (k.kind ≡ Kinds.number → ⊥) → (k.kind ≡ Kinds.string_literal → ⊥) → (k.kind ≡ Kinds.identifier → ⊥)
      → (k.kind ≡ Kinds.local_identifier → ⊥) → (k.kind ≡ Kinds.error → ⊥) → TokenTold leaf_term L k N D N D c (Err errors.Absent) c
  unfolding leaf_term
  other_told a b e f g h = record {
    told = λ T there. miss there (ne_eqb _ _ a) (miss there (ne_eqb _ _ b) (miss there (ne_eqb _ _ e) (miss there (ne_eqb _ _ f) (miss there (ne_eqb _ _ g) (miss there (ne_eqb _ _ h) absent_told)))));
    past = λ j w. refl;
  }

-- ---- the depth

module _ {T D D' : List ℕ} {c : Counters} {v_r : Parsed} {r : Counters} {s : Span} {y : Diagnostic} where
  pub depth_told : s ≡ span_or (token_at T c.at) c.end → y ≡ nesting_too_deep s → DeepTold D D' c y v_r r → DepthTold T D D' c v_r r
  unfolding too_deep span_or
  depth_told f g h = go (token_at T c.at) refl (g ∙ ap nesting_too_deep f)
    where
      go : (o : Option Token) → token_at T c.at ≡ o → y ≡ nesting_too_deep (span_or o c.end) → DepthTold T D D' c v_r r
      go (Some t) e z = record { told = λ L N. hereby (seen (sym (add-zero c.at)) e refl (report_told (rw z at h))) }
      go None e z = record { told = λ L N. hereby (beyond (sym (add-zero c.at)) e (report_told (rw z at h))) }
