-- Endings at the end of blocks: with them and without, lists and the lines between blocks are the same.
use Rattle.std.proofs.Common.{◌≡◌, ℕ, suc, Bool, true, false, true≢false, cond, leb, ◌&&◌, ◌||◌, not, refl, sym, ap, ◌∙◌}
use Rattle.std.proofs.lemmas.Bool.{cond_both, and_parts, and_right}
use Rattle.definition_block.specs.Tree.{Block, Blocks, Nil, Cons, join, one, is_ending, all_endings, trailing}
use Rattle.definition_block.specs.Lists.{endings_at_front, is_some_block, has_gap, group_items}
use Rattle.laws_quote.proofs.Lists.{grouped-join}
use Rattle.laws_quote.proofs.PageLaw.{join-nil}

-- only endings stand at the end
pub trailing_ends : (bs : Blocks) → all_endings (trailing bs) ≡ true
trailing_ends Nil = refl
trailing_ends (Cons b bs) =
    cond_both (all_endings (Cons b bs)) (Cons b bs) (trailing bs) (λ all. all_endings all ≡ true) (λ h. h) (λ _. trailing_ends bs)

-- one more block, and others after it
pub join_next : (bs : Blocks) (b : Block) (others : Blocks) → join bs (Cons b others) ≡ join (join bs (one b)) others
join_next Nil b others = refl
join_next (Cons c bs) b others = ap (Cons c) (join_next bs b others)

-- ---- a line between two blocks

some_ending : (bs : Blocks) (last : Block) → is_ending last ≡ true → is_some_block (join bs (one last)) ≡ is_some_block bs
some_ending Nil last e = ap (λ is. not is || false) e
some_ending (Cons b bs) last e = ap (λ some. not (is_ending b) || some) (some_ending bs last e)

leading_by : (bs more : Blocks) (ends : Bool) → (not ends || is_some_block bs) ≡ true → (is_some_block bs ≡ true → endings_at_front more ≡ endings_at_front bs)
    → cond ends (suc (endings_at_front more)) 0 ≡ cond ends (suc (endings_at_front bs)) 0
leading_by bs more true some same = ap suc (same some)
leading_by bs more false some same = refl

leading_ending : (bs : Blocks) (last : Block) → is_some_block bs ≡ true → endings_at_front (join bs (one last)) ≡ endings_at_front bs
leading_ending Nil last h = absurd (true≢false (sym h))
leading_ending (Cons b bs) last h = leading_by bs (join bs (one last)) (is_ending b) h (λ some. leading_ending bs last some)

-- before blocks of which some are there, or none
gap_by : (other : Bool) (n m : ℕ) (some : Bool) → (some ≡ true → n ≡ m) → ((other && leb 2 n) && some) ≡ ((other && leb 2 m) && some)
gap_by other n m true same = ap (λ k. (other && leb 2 k) && true) (same refl)
gap_by other n m false same = and_right (other && leb 2 n) false refl ∙ sym (and_right (other && leb 2 m) false refl)

pub gap_ending : (bs : Blocks) (last : Block) → is_ending last ≡ true → has_gap (join bs (one last)) ≡ has_gap bs
gap_ending Nil last e = ap (λ is. ((not is && false) && false) || false) e
gap_ending (Cons b bs) last e =
    let more = join bs (one last) in
    ap (λ some. ((not (is_ending b) && leb 2 (endings_at_front more)) && some) || has_gap more) (some_ending bs last e)
    ∙ ap (λ first. first || has_gap more)
    (gap_by (not (is_ending b)) (endings_at_front more) (endings_at_front bs) (is_some_block bs) (λ some. leading_ending bs last some))
    ∙ ap (λ gap. ((not (is_ending b) && leb 2 (endings_at_front bs)) && is_some_block bs) || gap) (gap_ending bs last e)

-- the same of more endings
pub gap_endings : (bs ends : Blocks) → all_endings ends ≡ true → has_gap (group_items (join bs ends)) ≡ has_gap (group_items bs)
gap_endings bs Nil h = ap (λ all. has_gap (group_items all)) (join-nil bs)
gap_endings bs (Cons last ends) h =
    let p = and_parts (is_ending last) (all_endings ends) h in
    ap (λ all. has_gap (group_items all)) (join_next bs last ends)
    ∙ gap_endings (join bs (one last)) ends p.1
    ∙ ap has_gap (grouped-join bs last p.0)
    ∙ gap_ending (group_items bs) last p.0
