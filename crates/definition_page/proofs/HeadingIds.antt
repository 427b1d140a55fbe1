-- Ids of headings: pieces after one another, and pages without them.
use Rattle.std.proofs.Common.{◌≡◌, ℕ, Bool, false, List, [], ◌∷◌, ◌++◌, Option, None, Some, refl, sym, ap, ◌∙◌}
use Rattle.std.proofs.lemmas.Bool.{false≢true}
use Rattle.markdown_compile_options.specs.declared.configuration.CompileOptions.{CompileOptions}
use Rattle.definition_inline.specs.LabelMatch.{normal_label, first_match}
use Rattle.definition_page.specs.Pieces.{Piece, Open, Named, CallOf, CountOf}
use Rattle.definition_page.specs.InlinePieces.{Meaning, call_at, count_at}
use Rattle.definition_page.specs.HeadingIds.{with_ids, tag_with_id}
use Rattle.definition_page.specs.Slug.{next_slug, with_slug}
use Rattle.definition_page.specs.Layout.{named_call, named_calls}
use Rattle.definition_page.specs.Page.{Blocks}
use Rattle.definition_page.specs.BlockPieces.{at_top, fresh_unless, children_pieces}
use Rattle.definition_page.proofs.PagePieces.{PiecesGood, Prints, any_blocks, named_page_good}

-- ---- pieces after one another

-- the slugs that are taken after pieces
abbrev pub taken_after : List (List ℕ) → List Piece → List (List ℕ)
taken_after taken [] = taken
taken_after taken (Named t text ∷ ps) = taken_after (with_slug taken text) ps
taken_after taken (p ∷ ps) = taken_after taken ps

pub ids_append : (options : CompileOptions) (taken : List (List ℕ)) (ps qs : List Piece)
    → with_ids options taken (ps ++ qs) ≡ with_ids options taken ps ++ with_ids options (taken_after taken ps) qs
ids_append options taken [] qs = refl
ids_append options taken (Named t text ∷ ps) qs =
    ap (λ all. Open (tag_with_id options (next_slug taken text) t) ∷ all) (ids_append options (with_slug taken text) ps qs)
ids_append options taken (p ∷ ps) qs = ap (λ all. p ∷ all) (ids_append options taken ps qs)

pub taken_append : (taken : List (List ℕ)) (ps qs : List Piece) → taken_after taken (ps ++ qs) ≡ taken_after (taken_after taken ps) qs
taken_append taken [] qs = refl
taken_append taken (Named t text ∷ ps) qs = taken_append (with_slug taken text) ps qs
taken_append taken (p ∷ ps) qs = taken_append taken ps qs

-- ---- calls

-- ids change no calls
pub calls_with_ids : (options : CompileOptions) (taken : List (List ℕ)) (ps : List Piece) → named_calls (with_ids options taken ps) ≡ named_calls ps
calls_with_ids options taken [] = refl
calls_with_ids options taken (Named t text ∷ ps) = calls_with_ids options (with_slug taken text) ps
calls_with_ids options taken (CallOf place label ∷ ps) = ap (λ cs. named_call place label ∷ cs) (calls_with_ids options taken ps)
calls_with_ids options taken (CountOf place label ∷ ps) = ap (λ cs. named_call place label ∷ cs) (calls_with_ids options taken ps)
calls_with_ids options taken (p ∷ ps) = calls_with_ids options taken ps

-- ---- pieces without names of headings

abbrev pub IsUnnamed : Piece → Type 0
IsUnnamed (Named t text) = ⊥
IsUnnamed piece = Unit {0}

abbrev pub AreUnnamed : List Piece → Type 0
AreUnnamed ps = PiecesGood IsUnnamed ps

-- they are as they were
pub unnamed_ids : (options : CompileOptions) (taken : List (List ℕ)) (ps : List Piece) → AreUnnamed ps → with_ids options taken ps ≡ ps
unnamed_ids options taken [] are = refl
unnamed_ids options taken (Named t text ∷ ps) are = absurd are.0
unnamed_ids options taken (p ∷ ps) are = ap (λ all. p ∷ all) (unnamed_ids options taken ps are.1)

-- and take no slugs
pub unnamed_taken : (taken : List (List ℕ)) (ps : List Piece) → AreUnnamed ps → taken_after taken ps ≡ taken
unnamed_taken taken [] are = refl
unnamed_taken taken (Named t text ∷ ps) are = absurd are.0
unnamed_taken taken (p ∷ ps) are = unnamed_taken taken ps are.1

call_unnamed : (found : Option ℕ) (label : List ℕ) → AreUnnamed (call_at found label)
call_unnamed None label = tt
call_unnamed (Some place) label = (tt, tt)

count_unnamed : (found : Option ℕ) (label : List ℕ) → AreUnnamed (count_at found label)
count_unnamed None label = tt
count_unnamed (Some place) label = (tt, tt)

-- where headings have no ids, none is named
unnamed : (m : Meaning) → m.compile.heading_ids ≡ false → Prints IsUnnamed m
unnamed m off =
    record {
      opens = λ t own. tt;
      closes = λ name. tt;
      voids = λ t own. tt;
      said = λ part. tt;
      eol = tt;
      fresh = tt;
      names = λ on t text own. absurd (false≢true (sym off ∙ on));
      calls = λ label. call_unnamed (first_match label m.footnotes) (normal_label label);
      counts = λ label. count_unnamed (first_match label m.footnotes) (normal_label label);
    }

-- the page of any blocks is then what they print
pub ids_off : (m : Meaning) → m.compile.heading_ids ≡ false → (options : CompileOptions) (bs : Blocks) (said : Bool)
    → with_ids options [] (children_pieces m at_top None bs ++ fresh_unless said) ≡ children_pieces m at_top None bs ++ fresh_unless said
ids_off m off options bs said =
    unnamed_ids options [] (children_pieces m at_top None bs ++ fresh_unless said)
    (named_page_good IsUnnamed m (unnamed m off) _ (any_blocks IsUnnamed tt tt) bs said tt)
