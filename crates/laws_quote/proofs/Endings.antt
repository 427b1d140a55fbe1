-- The ending at the end of blocks.
use Rattle.std.proofs.Common.{◌≡◌, ◌++◌, true, refl, sym, ap, ◌∙◌, append_assoc}
use Rattle.std.proofs.lemmas.Bool.{cond-true, cond_both}
use Rattle.definition_block.specs.Container.{Quote}
use Rattle.definition_block.specs.Tree.{Block, Holds, Blocks, Nil, Cons, join, one, is_ending, without_last, last_of, container_block}
use Rattle.definition_block.specs.Definitions.{block_definitions, definitions}
use Rattle.laws_block.proofs.TextLines.{join-without_last}
use Rattle.laws_quote.specs.Laws.{quote_of}

-- what ends the last line is nothing, or one ending
pub at_last : (P : Blocks → Type 0) (bs : Blocks) → P Nil → ((b : Block) → is_ending b ≡ true → P (one b)) → P (last_of bs)
at_last P Nil none some = none
at_last P (Cons b Nil) none some = cond_both (is_ending b) (one b) Nil P (λ e. some b e) (λ _. none)
at_last P (Cons b (Cons c bs)) none some = at_last P (Cons c bs) none some

-- after a quote it is still that
pub without_last-quote : (kids bs : Blocks) → without_last (join (quote_of kids) (last_of bs)) ≡ quote_of kids
without_last-quote kids bs =
    at_last (λ last. without_last (join (quote_of kids) last) ≡ quote_of kids) bs refl
    (λ b e. ap (Cons (Holds Quote kids)) (cond-true (is_ending b) Nil (one b) e))

pub last_of-quote : (kids bs : Blocks) → last_of (join (quote_of kids) (last_of bs)) ≡ last_of bs
last_of-quote kids bs =
    at_last (λ last. last_of (join (quote_of kids) last) ≡ last) bs refl (λ b e. cond-true (is_ending b) (one b) Nil e)

-- definitions
pub definitions-join : (bs cs : Blocks) → definitions (join bs cs) ≡ definitions bs ++ definitions cs
definitions-join Nil cs = refl
definitions-join (Cons b bs) cs =
    ap (λ ds. block_definitions b ++ ds) (definitions-join bs cs) ∙ sym (append_assoc (block_definitions b) (definitions bs) (definitions cs))

pub definitions-holds : (kids : Blocks) → definitions (container_block Quote kids) ≡ definitions kids
definitions-holds kids = sym (definitions-join (without_last kids) (last_of kids)) ∙ ap definitions (join-without_last kids)
