-- `names::literals::string_literal_bytes` meets its contract. The loop's invariant: the bytes stored and those to come are all that the literal has.
-- Assumes nothing.
use Rattle.names.specs.Literals.{quoted, literal_bytes}
use Rattle.names.proofs.literals.Quotes.{Storing}
use Rattle.names.proofs.literals.string_literal_bytes.Given as goal

abbrev pub invariant-loop-i : goal.invariant-loop-i
invariant-loop-i l = Storing (literal_bytes l.text) l.initial.out l.i-iterator.count (quoted l.i-iterator.iter.quote l.i-iterator.iter.rest.now) l.out
