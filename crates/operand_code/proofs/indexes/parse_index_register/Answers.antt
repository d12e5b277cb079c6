-- `operand_code::indexes::parse_index_register` meets its contract. A name that spells a suppressed register spells no register.
-- Assumes nothing.
use Rattle.records.specs.Problems
use Rattle.operand_code.proofs.indexes.Returns.{index_found, index_missing}
use Rattle.operand_code.proofs.malformed.Failures.{failed_over_same}
use Rattle.operand_code.proofs.Next.{found_by}
use Rattle.operand_code.proofs.indexes.parse_index_register.Goals as goal

pub returns-in_default-clause-told : goal.returns-in_default-clause-told
returns-in_default-clause-told c =
    index_missing _ _ c.next_index.ensures c.in_default.is (failed_over_same _ _ Problems.index_missing c.stepped_over.ensures.told)

pub index_register-requires : goal.index_register-requires
index_register-requires c =
    (found_by c.requires c.next_index.ensures c.in-Some.is).room

pub returns-clause-told : goal.returns-clause-told
returns-clause-told c =
    index_found _ _ (found_by c.requires c.next_index.ensures c.in-Some.is) c.index_register.ensures.told
