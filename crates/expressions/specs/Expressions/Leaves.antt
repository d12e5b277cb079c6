-- Terms, and those of one token.
-- Assumes nothing.
use Rattle.std.specs.Prelude.{Result, Ok, Err, Bool, true, false, List, ℕ}
use Rattle.names.specs.Kinds
use Rattle.names.specs.Registers.{reserved}
use Rattle.names.specs.Numbers.{number_of}
use Rattle.names.specs.Cases.{value_number}
use Rattle.names.specs.declared.tokens.Token.{Token}
use Rattle.names.specs.declared.numbers.NumberError.{NumberError}
use Rattle.records.specs.Spans.{span_of}
use Rattle.expressions.specs.Trees.{Expr, number, character_literal, symbol, current_address}
use Rattle.records.specs.Diagnostics.{number_too_large, register_in_expression}
use Rattle.expressions.specs.Reader.{is, Reader, answer, raise, bump, ◌>>=◌}

-- `Result<Expr, TermError>`
pub data Term : Type 0 where
  read : Expr → Term
  reported absent : Term

-- `Parser::number`: the value, 0 where it has none
unfoldable pub valued : Token → Result ℕ NumberError → Reader ℕ
valued k (Ok v) = answer (value_number (Ok v))
valued k (Err NumberError.TooLarge) = raise (number_too_large (span_of k)) (answer (value_number (Err NumberError.TooLarge)))
valued k (Err NumberError.Invalid) = answer (value_number (Err NumberError.Invalid))

unfoldable pub named : Token → Bool → Reader Term
named k true = raise (register_in_expression (span_of k)) (answer reported)
named k false = answer (read (symbol (span_of k) (span_of k)))

unfoldable pub number_term : Token → List ℕ → Reader Term
number_term k x = valued k (number_of k.detail x) >>= λ v. answer (read (number k.detail v (span_of k)))

-- `leaf = "*" | number | string | symbol`: a term of one token
unfoldable pub leaf_term : Reader Term
leaf_term =
    bump (is Kinds.star) (λ k x. answer (read (current_address (span_of k)))) λ u.
    bump (is Kinds.number) (λ k x. number_term k x) λ u.
    bump (is Kinds.string_literal) (λ k x. answer (read (character_literal k.detail (span_of k) (span_of k)))) λ u.
    bump (is Kinds.identifier) (λ k x. named k (reserved x)) λ u.
    bump (is Kinds.local_identifier) (λ k x. answer (read (symbol (span_of k) (span_of k)))) λ u.
    bump (is Kinds.error) (λ k x. answer reported) λ u.
    answer absent
