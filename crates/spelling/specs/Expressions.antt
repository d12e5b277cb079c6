-- How expressions are spelled: document 01's levels, groups and leaves.
-- Assumes nothing.
use Rattle.std.specs.Prelude.{Result, Ok, Err, ◌≡◌, Bool, true, List, ℕ, suc, ◌+◌, ◌<◌}
use Rattle.names.specs.Kinds
use Rattle.names.specs.Places.{Place}
use Rattle.names.specs.Numbers.{number_of}
use Rattle.names.specs.declared.numbers.NumberError.{NumberError}
use Rattle.records.specs.Spans.{span, span_of}
use Rattle.expressions.specs.Trees.{Expr, number, character_literal, symbol, current_address, unary, binary, span_e, with_span}
use Rattle.spelling.specs.Signs.{Sign, Name}

-- a number's value, which is 0 where it has none; it is not too large
pub data Worth : Result ℕ NumberError → ℕ → Type 0 where
  value : {v : ℕ} → Worth (Ok v) v
  invalid : Worth (Err NumberError.Invalid) 0

-- a sign, and its place in `UnaryOperator`
pub data Unary : ℕ → ℕ → Type 0 where
  minus : Unary Kinds.minus 0
  complement : Unary Kinds.tilde 1

-- a sign, its level, and its place in `BinaryOperator`; either sign of or is the same
pub data Binary : ℕ → ℕ → ℕ → Type 0 where
  shift_left : Binary Kinds.shift_left 4 8
  shift_right : Binary Kinds.shift_right 4 9
  and : Binary Kinds.ampersand 3 5
  or_bang : Binary Kinds.bang 3 6
  or_pipe : Binary Kinds.pipe 3 6
  exclusive_or : Binary Kinds.caret 3 7
  times : Binary Kinds.star 2 2
  divided : Binary Kinds.slash 2 3
  modulo : Binary Kinds.backslash 2 4
  plus : Binary Kinds.plus 1 0
  less : Binary Kinds.minus 1 1

-- Spells m room i j e: from the place i up to j stands the expression e, whose operators outside of groups are of level m or more (5: a term), and of
-- which at most room terms are open at once. own: the operand's first place, whose parenthesis opens no term. allowed: the names that may be symbols
pub data Spells (at : ℕ → Place) (allowed : ℕ → List ℕ → Bool) (own : ℕ) : ℕ → ℕ → ℕ → ℕ → Expr → Type 0 where
  a_number : {room i v : ℕ} (t : Sign at Kinds.number i) → Worth (number_of t.token.detail t.text) v
      → Spells at allowed own 5 (suc room) i (i + 1) (number t.token.detail v (span_of t.token))
  a_literal : {room i : ℕ} (t : Sign at Kinds.string_literal i)
      → Spells at allowed own 5 (suc room) i (i + 1) (character_literal t.token.detail (span_of t.token) (span_of t.token))
  a_name : {room i : ℕ} (t : Name at i) → allowed i t.text ≡ true
      → Spells at allowed own 5 (suc room) i (i + 1) (symbol (span_of t.token) (span_of t.token))
  a_local : {room i : ℕ} (t : Sign at Kinds.local_identifier i)
      → Spells at allowed own 5 (suc room) i (i + 1) (symbol (span_of t.token) (span_of t.token))
  an_address : {room i : ℕ} (t : Sign at Kinds.star i) → Spells at allowed own 5 (suc room) i (i + 1) (current_address (span_of t.token))
  a_unary : {room i j k n : ℕ} {e : Expr} (t : Sign at k i) → Unary k n → Spells at allowed own 5 room (i + 1) j e
      → Spells at allowed own 5 (suc room) i j (unary n e (span t.token.start (span_e e).end))
  a_group : {room i j : ℕ} {e : Expr} → own < i → (t : Sign at Kinds.left_paren i) → Spells at allowed own 1 room (i + 1) j e → (c : Sign at Kinds.right_paren j)
      → Spells at allowed own 5 (suc room) i (j + 1) (with_span e (span t.token.start c.token.end))
  own_group : {room j : ℕ} {e : Expr} (t : Sign at Kinds.left_paren own) → Spells at allowed own 1 room (own + 1) j e → (c : Sign at Kinds.right_paren j)
      → Spells at allowed own 5 room own (j + 1) (with_span e (span t.token.start c.token.end))
  tighter : {m room i j : ℕ} {e : Expr} → Spells at allowed own (suc m) room i j e → Spells at allowed own m room i j e
  -- left to right: the right side is of a tighter level
  joined : {m room i j n k o : ℕ} {e f : Expr} → Spells at allowed own m room i j e → Sign at k j → Binary k m o → Spells at allowed own (suc m) room (j + 1) n f
      → Spells at allowed own m room i n (binary o e f (span (span_e e).start (span_e f).end))
