-- Contents of footnotes.
use Rattle.std.proofs.Common.{◌≡◌, ◌≤◌, ℕ, zero, suc, ◌+◌, List, [], ◌∷◌, ◌++◌, reverse, refl, sym, ap, ◌∙◌, subst, append_assoc, arith}
use Rattle.std.proofs.lemmas.List.{append-nil}
use Rattle.definition_page.specs.Pieces.{Piece, NoteStart, NoteEnd}
use Rattle.definition_page.specs.Layout.{content, contents}
use Rattle.definition_page.proofs.PlainLayout.{turned}
use Rattle.laws_footnotes.specs.Footnotes.{AreWhole, note, AroundLaw, ContentLaw, HasNoNote, PlainContentLaw}

-- ---- pieces that neither start nor end a footnote

abbrev IsNoNote : Piece → Type 0
IsNoNote NoteStart = ⊥
IsNoNote NoteEnd = ⊥
IsNoNote piece = Unit {0}

same_level : (p : Piece) → IsNoNote p → (k : ℕ) (xs ys : List Piece) → content k xs ≡ content k ys → content k (p ∷ xs) ≡ content k (p ∷ ys)
same_level NoteStart is k xs ys same = absurd is
same_level NoteEnd is k xs ys same = absurd is
same_level p is zero xs ys same = ap (λ ps. ps ++ p ∷ []) same
same_level p is (suc k) xs ys same = same

further_out : (p : Piece) → IsNoNote p → (k : ℕ) (xs : List Piece) → content (suc k) (p ∷ xs) ≡ content (suc k) xs
further_out NoteStart is k xs = absurd is
further_out NoteEnd is k xs = absurd is
further_out p is k xs = refl

-- ---- after the start of a footnote

-- after some pieces in a footnote, so many more of which are open, what stands inside is that of these pieces alone, and around it that before
record Inside (before : List Piece) (n : ℕ) (mid : List Piece) : Type 0 where
  pub inside : (k : ℕ) → k ≤ n → content k (mid ++ NoteStart ∷ before) ≡ content k mid
  pub around : (k : ℕ) → content (suc (k + n)) (mid ++ NoteStart ∷ before) ≡ content k before

started : (before : List Piece) (n : ℕ) (mid : List Piece) → Inside before n mid → Inside before (suc n) (NoteStart ∷ mid)
started before n mid h = record { inside = inside; around = around }
  where
    inside : (k : ℕ) → k ≤ suc n → content k (NoteStart ∷ mid ++ NoteStart ∷ before) ≡ content k (NoteStart ∷ mid)
    inside zero le = refl
    inside (suc k) le = h.inside k (omega (arith, le))

    around : (k : ℕ) → content (k + suc n) (mid ++ NoteStart ∷ before) ≡ content k before
    around k = let same : k + suc n ≡ suc (k + n) = omega arith in ap (λ m. content m (mid ++ NoteStart ∷ before)) same ∙ h.around k

ended : (before : List Piece) (n : ℕ) (mid : List Piece) → Inside before (suc n) mid → Inside before n (NoteEnd ∷ mid)
ended before n mid h = record { inside = λ k le. h.inside (suc k) (omega (arith, le)); around = around }
  where
    around : (k : ℕ) → content (suc (suc (k + n))) (mid ++ NoteStart ∷ before) ≡ content k before
    around k =
        let same : suc (suc (k + n)) ≡ suc (k + suc n) = omega arith in ap (λ m. content m (mid ++ NoteStart ∷ before)) same ∙ h.around k

passed : (before : List Piece) (n : ℕ) (mid : List Piece) (p : Piece) → IsNoNote p → Inside before n mid → Inside before n (p ∷ mid)
passed before n mid p is h = record {
  inside = λ k le. same_level p is k (mid ++ NoteStart ∷ before) mid (h.inside k le);
  around = λ k. further_out p is (k + n) (mid ++ NoteStart ∷ before) ∙ h.around k;
}

-- one piece before others, from the last one to the first
one_turned : (p : Piece) (ps before : List Piece) → reverse (p ∷ ps) ++ before ≡ reverse ps ++ p ∷ before
one_turned p ps before = turned (p ∷ []) ps before

-- pieces that end all footnotes that are open
whole_content : (before ps : List Piece) (n : ℕ) (mid : List Piece) → AreWhole ps n → Inside before n mid → Inside before 0 (reverse ps ++ mid)
whole_content before [] zero mid are h = h
whole_content before [] (suc n) mid are h = absurd are
whole_content before (NoteStart ∷ ps) n mid are h =
    subst (Inside before 0) (sym (one_turned NoteStart ps mid)) (whole_content before ps (suc n) (NoteStart ∷ mid) are (started before n mid h))
whole_content before (NoteEnd ∷ ps) zero mid are h = absurd are
whole_content before (NoteEnd ∷ ps) (suc n) mid are h =
    subst (Inside before 0) (sym (one_turned NoteEnd ps mid)) (whole_content before ps n (NoteEnd ∷ mid) are (ended before n mid h))
whole_content before (p ∷ ps) n mid are h =
    subst (Inside before 0) (sym (one_turned p ps mid)) (whole_content before ps n (p ∷ mid) are (passed before n mid p tt h))

whole_contents : (before ps : List Piece) (n : ℕ) (mid others : List Piece) → AreWhole ps n → Inside before n mid
    → contents (mid ++ NoteStart ∷ before) (ps ++ others) ≡ contents mid ps ++ contents (reverse ps ++ (mid ++ NoteStart ∷ before)) others
whole_contents before [] n mid others are h = refl
whole_contents before (NoteStart ∷ ps) n mid others are h =
    whole_contents before ps (suc n) (NoteStart ∷ mid) others are (started before n mid h)
    ∙ ap (λ all. contents (NoteStart ∷ mid) ps ++ contents all others) (sym (one_turned NoteStart ps (mid ++ NoteStart ∷ before)))
whole_contents before (NoteEnd ∷ ps) zero mid others are h = absurd are
whole_contents before (NoteEnd ∷ ps) (suc n) mid others are h =
    let first = contents (NoteEnd ∷ mid) ps in
    ap (λ c. c ∷ contents (NoteEnd ∷ mid ++ NoteStart ∷ before) (ps ++ others)) (h.inside 0 (omega arith))
    ∙ ap (λ cs. content zero mid ∷ cs)
    (whole_contents before ps n (NoteEnd ∷ mid) others are (ended before n mid h)
    ∙ ap (λ all. first ++ contents all others) (sym (one_turned NoteEnd ps (mid ++ NoteStart ∷ before))))
whole_contents before (p ∷ ps) n mid others are h =
    whole_contents before ps n (p ∷ mid) others are (passed before n mid p tt h)
    ∙ ap (λ all. contents (p ∷ mid) ps ++ contents all others) (sym (one_turned p ps (mid ++ NoteStart ∷ before)))

-- ---- a footnote

-- at its start
at_start : (before : List Piece) → Inside before 0 []
at_start before = record { inside = inside; around = around }
  where
    inside : (k : ℕ) → k ≤ 0 → content k (NoteStart ∷ before) ≡ content k []
    inside zero le = refl
    inside (suc k) le = absurd (omega (arith, le))

    around : (k : ℕ) → content (k + 0) before ≡ content k before
    around k = let same : k + 0 ≡ k = omega arith in ap (λ m. content m before) same

-- a footnote before other pieces, from the last one to the first
note_turned : (ps before : List Piece) → reverse (note ps) ++ before ≡ NoteEnd ∷ reverse ps ++ NoteStart ∷ before
note_turned ps before =
    one_turned NoteStart (ps ++ NoteEnd ∷ []) before ∙ turned ps (NoteEnd ∷ []) (NoteStart ∷ before)

pub around_law : AroundLaw
around_law before ps out are =
    let same : suc out ≡ suc (out + 0) = omega arith in
    ap (content out) (note_turned ps before)
    ∙ ap (λ all. content (suc out) (all ++ NoteStart ∷ before)) (sym (append-nil (reverse ps)))
    ∙ ap (λ m. content m ((reverse ps ++ []) ++ NoteStart ∷ before)) same
    ∙ (whole_content before ps 0 [] are (at_start before)).around out

pub content_law : ContentLaw
content_law before ps later are =
    let inside : content zero (reverse ps ++ NoteStart ∷ before) ≡ content zero (reverse ps) =
    ap (λ all. content zero (all ++ NoteStart ∷ before)) (sym (append-nil (reverse ps)))
    ∙ (whole_content before ps 0 [] are (at_start before)).inside 0 (omega arith)
    ∙ ap (content zero) (append-nil (reverse ps)) in
    ap (contents (NoteStart ∷ before)) (append_assoc ps (NoteEnd ∷ []) later)
    ∙ whole_contents before ps 0 [] (NoteEnd ∷ later) are (at_start before)
    ∙ ap (λ c. contents [] ps ++ c ∷ contents (NoteEnd ∷ reverse ps ++ NoteStart ∷ before) later) inside
    ∙ ap (λ all. contents [] ps ++ content zero (reverse ps) ∷ contents all later) (sym (note_turned ps before))

-- ---- pieces without footnotes

plain_whole : (ps : List Piece) → HasNoNote ps → AreWhole ps 0
plain_whole [] has = tt
plain_whole (NoteStart ∷ ps) has = absurd has
plain_whole (NoteEnd ∷ ps) has = absurd has
plain_whole (p ∷ ps) has = plain_whole ps has

plain_content : (ps before : List Piece) → HasNoNote ps → content zero (reverse ps ++ before) ≡ content zero before ++ ps
plain_content [] before has = sym (append-nil (content zero before))
plain_content (NoteStart ∷ ps) before has = absurd has
plain_content (NoteEnd ∷ ps) before has = absurd has
plain_content (p ∷ ps) before has =
    ap (content zero) (one_turned p ps before) ∙ plain_content ps (p ∷ before) has ∙ append_assoc (content zero before) (p ∷ []) ps

plain_contents : (ps before : List Piece) → HasNoNote ps → contents before ps ≡ []
plain_contents [] before has = refl
plain_contents (NoteStart ∷ ps) before has = absurd has
plain_contents (NoteEnd ∷ ps) before has = absurd has
plain_contents (p ∷ ps) before has = plain_contents ps (p ∷ before) has

pub plain_content_law : PlainContentLaw
plain_content_law ps has = (
  plain_whole ps has,
  ap (content zero) (sym (append-nil (reverse ps))) ∙ plain_content ps [] has,
  plain_contents ps [] has,
)
