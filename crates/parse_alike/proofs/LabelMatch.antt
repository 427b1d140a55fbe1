-- Labels match by their words.
use Rattle.std.proofs.Common.{◌≡◌, Bool, true, false, cond, List, [], ◌∷◌, ◌++◌, filter, refl, sym, ap, ◌∙◌}
use Rattle.parse_alike.proofs.Prelude.{and_parts, append-nil, Code, list_all}
use Rattle.std.specs.List.{join_by, onto_first, slice_split}
use Rattle.std.proofs.lemmas.List.Elements.{filter-append}
use Rattle.definition_text.specs.Ascii.{space}
use Rattle.definition_text.specs.Content.{is_space}
use Rattle.definition_inline.specs.LabelMatch.{is_word, words, fold_word}
use Rattle.parse_alike.specs.LabelMatch.{HaveSameWords, AreSpaces, SameWordsAreAlike}
use Rattle.parse_alike.proofs.Said.{both}

-- ---- parts between spaces

-- the first part, and the others: there is always one
split_some : (cs : List Code) → (part : List Code) × (parts : List (List Code)) × (slice_split is_space cs ≡ part ∷ parts)
split_some [] = ([], [], refl)
split_some (c ∷ cs) = by_space (is_space c) (split_some cs)
  where
    by_space : (t : Bool) → (part : List Code) × (parts : List (List Code)) × (slice_split is_space cs ≡ part ∷ parts)
        → (part : List Code) × (parts : List (List Code))
        × (cond t ([] ∷ slice_split is_space cs) (onto_first c (slice_split is_space cs)) ≡ part ∷ parts)
    by_space true found = ([], slice_split is_space cs, refl)
    by_space false found = (c ∷ found.0, found.1, ap (onto_first c) found.2)

onto-append : (c : Code) (xs ys : List (List Code)) (part : List Code) (parts : List (List Code)) → xs ≡ part ∷ parts
    → onto_first c (xs ++ ys) ≡ onto_first c xs ++ ys
onto-append c xs ys part parts e = ap (λ zs. onto_first c (zs ++ ys)) e ∙ sym (ap (λ zs. onto_first c zs ++ ys) e)

split-by : (t : Bool) (c : Code) (xs ys zs : List (List Code)) → zs ≡ xs ++ ys → onto_first c (xs ++ ys) ≡ onto_first c xs ++ ys
    → cond t ([] ∷ zs) (onto_first c zs) ≡ cond t ([] ∷ xs) (onto_first c xs) ++ ys
split-by true c xs ys zs e first = ap (λ all. [] ∷ all) e
split-by false c xs ys zs e first = ap (onto_first c) e ∙ first

-- a space ends a part
split-space : (cs ds : List Code) (s : Code) → is_space s ≡ true → slice_split is_space (cs ++ s ∷ ds) ≡ slice_split is_space cs ++ slice_split is_space ds
split-space [] ds s h = ap (λ t. cond t ([] ∷ slice_split is_space ds) (onto_first s (slice_split is_space ds))) h
split-space (c ∷ cs) ds s h =
    let own = split_some cs in
    split-by (is_space c) c (slice_split is_space cs) (slice_split is_space ds) (slice_split is_space (cs ++ s ∷ ds)) (split-space cs ds s h)
    (onto-append c (slice_split is_space cs) (slice_split is_space ds) own.0 own.1 own.2)

-- ---- words

-- a space stands between words
pub words-space : (cs ds : List Code) (s : Code) → is_space s ≡ true → words (cs ++ s ∷ ds) ≡ words cs ++ words ds
words-space cs ds s h = ap (filter is_word) (split-space cs ds s h) ∙ filter-append is_word (slice_split is_space cs) (slice_split is_space ds)

-- spaces at the start are no words
words-after : (spaces cs : List Code) → AreSpaces spaces → words (spaces ++ cs) ≡ words cs
words-after [] cs h = refl
words-after (s ∷ spaces) cs h =
    let both_are = and_parts (is_space s) (list_all is_space spaces) h in
    words-space [] (spaces ++ cs) s both_are.0 ∙ words-after spaces cs both_are.1

words-before : (cs spaces : List Code) → AreSpaces spaces → words (cs ++ spaces) ≡ words cs
words-before cs [] h = ap words (append-nil cs)
words-before cs (s ∷ spaces) h =
    let both_are = and_parts (is_space s) (list_all is_space spaces) h in
    words-space cs spaces s both_are.0
    ∙ ap (λ others. words cs ++ others) (ap words (sym (append-nil spaces)) ∙ words-after spaces [] both_are.1)
    ∙ append-nil (words cs)

words-around : (before label after : List Code) → AreSpaces before → AreSpaces after → HaveSameWords label (before ++ label ++ after)
words-around before label after h k = sym (words-before (before ++ label) after k ∙ words-after before label h)

-- words, spaces, and words
words-gap : (first second : List Code) (s : Code) (more : List Code) → AreSpaces (s ∷ more)
    → words (first ++ (s ∷ more ++ second)) ≡ words first ++ words second
words-gap first second s more h =
    let both_are = and_parts (is_space s) (list_all is_space more) h in
    words-space first (more ++ second) s both_are.0 ∙ ap (λ others. words first ++ others) (words-after more second both_are.1)

words-between : (first first' second second' : List Code) (s s' : Code) (more more' : List Code) → HaveSameWords first first'
    → HaveSameWords second second' → AreSpaces (s ∷ more) → AreSpaces (s' ∷ more')
    → HaveSameWords (first ++ (s ∷ more ++ second)) (first' ++ (s' ∷ more' ++ second'))
words-between first first' second second' s s' more more' p q h k =
    words-gap first second s more h
    ∙ both (words first) (words second) (words first') (words second') p q
    ∙ sym (words-gap first' second' s' more' k)

pub same_words_are_alike : SameWordsAreAlike
same_words_are_alike =
    record { alike = λ label label' p. ap (join_by fold_word (space ∷ [])) p; around = words-around; between = words-between }
