-- The footnotes that a page calls.
use Rattle.std.proofs.Common.{◌≡◌, ℕ, suc, ◌+◌, cond, eqb, List, [], ◌∷◌, map, refl, ap, ◌∙◌, arith}
use Rattle.std.specs.List.{count_by}
use Rattle.std.proofs.lemmas.List.Recursion.{is_count_by}
use Rattle.definition_page.specs.Pieces.{Piece, CallOf, CountOf}
use Rattle.definition_page.specs.Layout.{NamedCall, named_call, named_calls, first_calls, times, footnote_of, called_footnotes}
use Rattle.definition_page.proofs.PlainLayout.{uncalled_page}
use Rattle.laws_footnotes.specs.Footnotes.{only_calls, NoCallLaw, CountedCallsLaw, CountLaw}

pub no_call_law : NoCallLaw
no_call_law = uncalled_page

-- the calls of pieces are those of the pieces that call
only_called : (ps : List Piece) → named_calls ps ≡ named_calls (only_calls ps)
only_called [] = refl
only_called (CallOf place label ∷ ps) = ap (λ cs. named_call place label ∷ cs) (only_called ps)
only_called (CountOf place label ∷ ps) = ap (λ cs. named_call place label ∷ cs) (only_called ps)
only_called (p ∷ ps) = only_called ps

pub counted_calls_law : CountedCallsLaw
counted_calls_law ps notes = ap (λ calls. called_footnotes calls notes) (only_called ps)

times_counted : (place : ℕ) (calls : List NamedCall) → times place calls ≡ count_by (λ k. eqb place k.place) calls
times_counted place calls = is_count_by (times place) (λ k. eqb place k.place) refl one_more calls
  where
    one_more : (k : NamedCall) (ks : List NamedCall) → times place (k ∷ ks) ≡ cond (eqb place k.place) (1 + times place ks) (times place ks)
    one_more k ks = let more : suc (times place ks) ≡ 1 + times place ks = omega arith in ap (λ n. cond (eqb place k.place) n (times place ks)) more

counts : (calls : List NamedCall) (notes : List (List ℕ)) (cs : List NamedCall)
    → map (λ n. n.calls) (map (footnote_of calls notes) cs) ≡ map (λ (c : NamedCall). count_by (λ k. eqb c.place k.place) calls) cs
counts calls notes [] = refl
counts calls notes (c ∷ cs) =
    ap (λ n. n ∷ map (λ n. n.calls) (map (footnote_of calls notes) cs)) (times_counted c.place calls)
    ∙ ap (λ ns. count_by (λ k. eqb c.place k.place) calls ∷ ns) (counts calls notes cs)

pub count_law : CountLaw
count_law calls notes = counts calls notes (first_calls calls)
