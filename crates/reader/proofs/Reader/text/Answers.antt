-- `reader::Reader::text` meets its contract: what `token_at` gives says which case of `text_at` holds.
-- Assumes nothing.
use Rattle.std.proofs.Common.{rules, ◌≡◌, refl, Option, Some, None, MatchOption, Bor, List, [], ℕ}
use Rattle.names.specs.Places.{text_of}
use Rattle.names.specs.Tokens.{token_told}
use Rattle.names.specs.declared.tokens.Token.{Token}
use Rattle.reader.specs.Cursor.{text_from, text_at}
use Rattle.reader.proofs.Reader.text.Goals as goal

-- where there is a token its text, and else no bytes
either : {Q : Token → Type 0} (L : List ℕ) (o : Option Token) (r e : Bor (List ℕ)) → ((t : Token) → Q t → r.now ≡ text_of L t.start t.end) → e.now ≡ [] → MatchOption o (r ≡ e) Q → r.now ≡ text_from L o
unfolding text_from
either L None r e f n h = rw h n
either L (Some t) r e f n h = f t h

pub returns : goal.returns
unfolding text_at
returns c =
    rw (← token_told _ _ _ c.token_at.ensures) (either c.args.self.line.now _ _ _ (λ t h. search rules) refl c.map_or.ensures)
