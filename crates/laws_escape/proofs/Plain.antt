-- What a line does where every construct is off.
use Rattle.std.proofs.Common.{◌≡◌, ℕ, suc, zero, List, [], ◌∷◌, ◌++◌, Option, true, cond, refl, ap, length}
use Rattle.laws_escape.proofs.Prelude.{At, Beside, Blank, BlockLine, close_leaf, grow, is_blank, join, leaf_line, LineEnding, new, Nil, no_constructs, nothing}
use Rattle.laws_escape.proofs.Prelude.{one, Opening, Rest, rest_line, Text, text_line_of, tree, Tree}

-- the open paragraph with these lines, none where it isn't open
abbrev pub paragraph : List BlockLine → Opening
paragraph ls = At (Text ls)

-- a blank line closes the open paragraph
abbrev pub blank_tree : List BlockLine → Option LineEnding → Tree
blank_tree ls ending = tree (join (close_leaf no_constructs (Text ls)) (one (Blank ending))) nothing

-- any other line goes on it, or starts one
abbrev pub text_tree : List BlockLine → Rest → Beside → Tree
text_tree ls rest beside = tree Nil (paragraph (ls ++ rest_line rest beside ∷ []))

-- the one or the other
abbrev pub plain_tree : List BlockLine → Rest → Beside → Tree
plain_tree ls rest beside = cond (is_blank rest) (blank_tree ls beside.ending) (text_tree ls rest beside)

-- a line of text
plain_text : (ls : List BlockLine) (rest : Rest) (beside : Beside) → text_line_of no_constructs (paragraph ls) rest beside ≡ text_tree ls rest beside
plain_text [] rest beside = refl
plain_text (line ∷ others) rest beside = refl

-- no leaf but a paragraph begins, and no container starts
plain_leaf : (ls : List BlockLine) (rest : Rest) (beside : Beside)
    → leaf_line no_constructs (paragraph ls) rest beside ≡ plain_tree ls rest beside
plain_leaf ls rest beside = ap (λ t. cond (is_blank rest) (blank_tree ls beside.ending) t) (plain_text ls rest beside)

plain_new : (most : ℕ) (ls : List BlockLine) (rest : Rest) (beside : Beside)
    → new most no_constructs true (paragraph ls) beside rest ≡ plain_tree ls rest beside
plain_new zero ls rest beside = plain_leaf ls rest beside
plain_new (suc most) ls rest beside = plain_leaf ls rest beside

-- a line
pub plain_grow : (ls : List BlockLine) (rest : Rest) (beside : Beside)
    → grow no_constructs beside (paragraph ls) rest ≡ plain_tree ls rest beside
plain_grow ls rest beside = plain_new (length rest) ls rest beside
