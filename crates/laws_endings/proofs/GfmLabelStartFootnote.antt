-- Calls of footnotes, with another line ending in place of each LF: none is in them.
use Rattle.std.proofs.Common.{ℕ, suc, List, [], ◌∷◌, Option, None, Some, String, string_bytes, refl, sym, arith, inr, All, decimal, subst, append-nil}
use Rattle.laws_endings.proofs.Prelude.{All-tail, ArePlain, attribute, Attribute, attribute_bytes, call_id, codes, CompileOptions, cond_both, element}
use Rattle.laws_endings.proofs.Prelude.{footnote_id, HasNoFeed, HaveNoFeeds, leads_to_id, LineEnding, nat_le, ne_eqb, Number, percent, PrintedPart, Says}
use Rattle.laws_endings.proofs.Prelude.{text_or, times, Words, ◌≢◌}
use Rattle.definition_page.specs.Pieces.{CallOf, CountOf}
use Rattle.definition_page.specs.GfmLabelStartFootnote.{Call, id_prefix, count_says, call_tag, call_pieces}
use Rattle.definition_page.specs.Layout.{call_of}
use Rattle.laws_endings.proofs.Each.{Each}
use Rattle.laws_endings.proofs.Bytes.{IsNoFeed, given_no_feed, decimal_no_feed, percent_no_feed, kept}
use Rattle.laws_endings.proofs.Saids.{SaidWith, SaidsWith, says_more, says_one, words-kept}
use Rattle.laws_endings.proofs.Pieces.{BytesWith, AttributesWith, attribute-with, more_attributes, PiecesWith, said-with, element-with}
use Rattle.laws_endings.proofs.Pieces.{CutWith, plain_cut, no_cut}

-- ---- texts of the options

no_feeds : (text : List ℕ) → All (λ b. b ≢ 10) text → Each IsNoFeed text
no_feeds [] p = tt
no_feeds (b ∷ bs) p = (ne_eqb b 10 (p 0 b (omega arith)), no_feeds bs (All-tail (λ x. x ≢ 10) b bs p))

-- a text of the options, or one without LF
pub text_no_feed : {A : Type 0} (text : Option (String A)) (default : List ℕ) → HasNoFeed text → Each IsNoFeed default → Each IsNoFeed (text_or text default)
text_no_feed None default p q = q
text_no_feed (Some text) default p q = no_feeds (string_bytes text) p

module _ (e : LineEnding) (options : CompileOptions) (fit : HaveNoFeeds options) where
  -- ---- ids

  prefix-with : SaidWith e (Words (id_prefix options)) (Words (id_prefix options))
  prefix-with =
      words-kept e (id_prefix options)
      (text_no_feed options.gfm_footnote_clobber_prefix (codes "user-content-") fit.id_prefix (given_no_feed (codes "user-content-") refl))

  label-with : (label : List ℕ) → SaidWith e (Words (percent label)) (Words (percent label))
  label-with label = words-kept e (percent label) (percent_no_feed label)

  pub number-with : (n : ℕ) → SaidWith e (Number n) (Number n)
  number-with n = sym (kept e (decimal n) (decimal_no_feed n))

  same-then : (s : PrintedPart) (ss : List PrintedPart) → SaidWith e s s → SaidsWith e ss ss → SaidsWith e (s ∷ ss) (s ∷ ss)
  same-then s ss p q = says_more e s s ss ss p q

  pub footnote_id-with : (label : List ℕ) → SaidsWith e (footnote_id options label) (footnote_id options label)
  footnote_id-with label =
      let text = Words (percent label) ∷ [] in
      same-then (Words (id_prefix options)) (Words (codes "fn-") ∷ text) prefix-with
      (same-then (Words (codes "fn-")) text refl (says_one e (Words (percent label)) (Words (percent label)) (label-with label)))

  count-with : (count : ℕ) → SaidsWith e (count_says count) (count_says count)
  count-with count =
      let number = Number count ∷ [] in
      cond_both (nat_le count 1) [] (Words (codes "-") ∷ number) (λ ss. SaidsWith e ss ss) (λ _. refl)
      (λ _. same-then (Words (codes "-")) number refl (says_one e (Number count) (Number count) (number-with count)))

  pub call_id-with : (label : List ℕ) (count : ℕ) → SaidsWith e (call_id options label count) (call_id options label count)
  call_id-with label count =
      let text = Words (percent label) ∷ count_says count in
      same-then (Words (id_prefix options)) (Words (codes "fnref-") ∷ text) prefix-with
      (same-then (Words (codes "fnref-")) text refl (same-then (Words (percent label)) (count_says count) (label-with label) (count-with count)))

  pub leads_to-with : (id : List PrintedPart) → SaidsWith e id id → BytesWith e (attribute_bytes (leads_to_id id)) (attribute_bytes (leads_to_id id))
  leads_to-with id p = attribute-with e (codes "href") (Words (codes "#") ∷ id) (Words (codes "#") ∷ id) refl (same-then (Words (codes "#")) id refl p)

  pub same_attribute : (a : Attribute) (others : List Attribute) → BytesWith e (attribute_bytes a) (attribute_bytes a)
      → AttributesWith e others others → AttributesWith e (a ∷ others) (a ∷ others)
  same_attribute a others p q = more_attributes e a a others others p q

  -- ---- calls

  call-with : (call : Call) → PiecesWith e options (call_pieces options call) (call_pieces options call)
  call-with call =
      let tag = call_tag options call in
      let number = Says (Number call.number) ∷ [] in
      let id : Attribute = record { name = codes "id"; value = call_id options call.label call.count } in
      let inside = element tag number in
      let rest = attribute (codes "data-footnote-ref") [] ∷ attribute (codes "aria-describedby") (codes "footnote-label") ∷ [] in
      element-with e options (codes "sup") [] [] inside inside refl refl
      (element-with e options (codes "a") tag.attributes tag.attributes number number refl
      (same_attribute (leads_to_id (footnote_id options call.label)) (id ∷ rest) (leads_to-with (footnote_id options call.label) (footnote_id-with call.label))
      (same_attribute id rest (attribute-with e (codes "id") id.value id.value refl (call_id-with call.label call.count)) refl))
      (said-with e options (Number call.number) (Number call.number) (number-with call.number)))

module _ (e : LineEnding) (options : CompileOptions) (place : ℕ) (label : List ℕ) (fit : HaveNoFeeds options) where
  pub call_piece-with : PiecesWith e options (CallOf place label ∷ []) (CallOf place label ∷ [])
  call_piece-with taken = (
    (
      (λ out. refl),
      record {
        calls = refl;
        may = inr fit;
        cut = λ firsts earlier.
            let call : Call = call_of place (suc (times place earlier)) 1 firsts in
            let ps = call_pieces options call in
            let are : ArePlain ps = (tt, (tt, (tt, (tt, (tt, tt))))) in
            subst (λ shown. CutWith e options shown shown) (sym (append-nil ps)) (plain_cut e options ps ps are are (call-with e options fit call taken).0.0);
      },
    ),
    refl,
  )

  pub count_piece-with : PiecesWith e options (CountOf place label ∷ []) (CountOf place label ∷ [])
  count_piece-with taken = (((λ out. refl), record { calls = refl; may = inr fit; cut = λ firsts earlier. no_cut e options }), refl)
