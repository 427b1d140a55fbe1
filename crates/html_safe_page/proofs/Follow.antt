-- The test goes on from tag to tag.
use Rattle.std.proofs.Common.{◌≡◌, ℕ, ◌-◌, ◌<◌, List, [], ◌∷◌, ◌++◌, Bool, true, false, ◌&&◌, cond, eqb, Option, None, Some, Bor, length, take, drop, refl, sym}
use Rattle.std.proofs.Common.{ap, ◌∙◌, subst, arith}
use Rattle.std.specs.List.{starts_with}
use Rattle.std.specs.Option.{IfSome, is_some, option_map, option_copied}
use Rattle.std.specs.Str.{bytes_eq}
use Rattle.std.proofs.lemmas.Bool.{cond_both, cond-true, cond-false, true≢false, false≢true, and_parts, eqb-true, eq-eqb, ne_eqb}
use Rattle.std.proofs.lemmas.List.{take_rest}
use Rattle.html_safe_page.specs.Table.{start_rows, start_rows_of, more_start_rows, void_rows, void_rows_of, more_void_rows}
use Rattle.html_safe_page.specs.SafePage.{Tag, void_end}
use Rattle.html_safe_page.specs.Reader.{QuotedText, longer, read_tag}
use Rattle.html_safe_page.specs.Machine.{split_tag, close, with_open_tag, follows, if_goes_on}
use Rattle.html_safe_page.specs.Views.{onto, open_names}
use Rattle.html_safe_page.proofs.Options.{map_if}
use Rattle.html_safe_page.proofs.Text.{split}
use Rattle.html_safe_page.proofs.Steps.{some_mapped}
use Rattle.html_safe_page.specs.declared.table.TagTable.{TagTable}
use Rattle.html_safe_page.specs.declared.table.TagTable.TheVariants.{Basic, Extended}

onto_last : (xs : List (Bor (List ℕ))) (x : Bor (List ℕ)) (others : List (List ℕ)) → onto (xs ++ x ∷ []) others ≡ x.now ∷ onto xs others
onto_last [] x others = refl
onto_last (y ∷ ys) x others = onto_last ys x (y.now ∷ others)

pub open_push : (xs : List (Bor (List ℕ))) (x : Bor (List ℕ)) → open_names (xs ++ x ∷ []) ≡ x.now ∷ open_names xs
open_push xs x = onto_last xs x []

-- ---- other tags

no_start : (table : TagTable) → read_tag (start_rows_of table) [] [] ≡ None
unfolding start_rows more_start_rows
no_start Basic = refl
no_start Extended = refl

no_void : (table : TagTable) → read_tag (void_rows_of table) void_end [] ≡ None
unfolding void_rows more_void_rows
no_void Basic = refl
no_void Extended = refl

opened_start : (start void : Option Tag) (n : List ℕ) (ns : List (List ℕ)) → Some n ≡ option_map (λ (t : Tag). t.name) start
    → with_open_tag start void ns ≡ Some (n ∷ ns)
opened_start None void n ns h = absurd (true≢false (ap is_some h))
opened_start (Some tag) void n ns h = ap (λ o. Some (get o ∷ ns)) (sym h)
  where
    get : Option (List ℕ) → List ℕ
    get None = []
    get (Some x) = x

opened_void : (start void : Option Tag) (t : Bool) (ns : List (List ℕ)) → None ≡ option_map (λ (t : Tag). t.name) start → t ≡ is_some void
    → with_open_tag start void ns ≡ if_goes_on t ns
opened_void (Some tag) void t ns h e = absurd (false≢true (ap is_some h))
opened_void None None t ns h e = ap (λ t. if_goes_on t ns) (sym e)
opened_void None (Some tag) t ns h e = ap (λ t. if_goes_on t ns) (sym e)

pub same_some : (r : Option (Bor (List ℕ))) (o : Option Tag) → option_copied r ≡ option_map (λ (t : Tag). t.name) o → is_some r ≡ is_some o
same_some r o h = sym (some_mapped (λ (x : Bor (List ℕ)). x.now) r) ∙ ap is_some h ∙ some_mapped (λ (t : Tag). t.name) o

-- ---- what follows a tag is shorter

split_shorter : (bytes : List ℕ) → IfSome (split_tag bytes) (λ q. length q.rest < length bytes)
split_shorter [] = tt
split_shorter (b ∷ bs) =
    let P = λ (q : QuotedText). length q.rest < length (b ∷ bs) in
    let more = option_map (longer b) (split_tag bs) in
    cond_both (eqb b 62) (Some (split [] bs)) (cond (eqb b 60) None more) (λ o. IfSome o P) (λ _. omega arith)
    (λ _. cond_both (eqb b 60) None more (λ o. IfSome o P) (λ _. tt)
    (λ _. map_if (split_tag bs) (longer b) (λ q. length q.rest < length bs) P (split_shorter bs) (λ q h. omega (arith, h))))

pub shorter : (bytes : List ℕ) (q : QuotedText) → Some q ≡ split_tag bytes → length q.rest < length bytes
shorter bytes q h = subst (λ o. IfSome o (λ q. length q.rest < length bytes)) (sym h) (split_shorter bytes)

-- ---- names

onto_more : (xs : List (Bor (List ℕ))) (n : List ℕ) (ns : List (List ℕ)) → onto xs (n ∷ ns) ≡ [] → ⊥
onto_more [] n ns h = cc
onto_more (x ∷ xs) n ns h = onto_more xs x.now (n ∷ ns) h

pub none_open : (xs : List (Bor (List ℕ))) → open_names xs ≡ [] → length xs ≡ 0
none_open [] h = refl
none_open (x ∷ xs) h = absurd (onto_more xs x.now [] h)

pub open_none : (xs : List (Bor (List ℕ))) → length xs ≡ 0 → open_names xs ≡ []
open_none [] h = refl
open_none (x ∷ xs) h = absurd (omega (arith, h))

module _ (table : TagTable) where
  -- ---- end tags

  pub slash : (tag : List ℕ) (ns : List (List ℕ)) → starts_with eqb tag (47 ∷ []) ≡ true → follows table tag ns ≡ close (take (length tag - 1) (drop 1 tag)) ns
  slash [] ns h = absurd (false≢true h)
  slash (b ∷ bs) ns h =
      let e : b ≡ 47 = sym (eqb-true 47 b (and_parts (eqb 47 b) true h).0) in
      cond-true (eqb b 47) (close bs ns) _ (eq-eqb b 47 e) ∙ ap (λ x. close x ns) (sym (take_rest (b ∷ bs) 1))

  pub closed : (tag : List ℕ) (name : Bor (List ℕ)) (old new : List (Bor (List ℕ))) (t : Bool) → starts_with eqb tag (47 ∷ []) ≡ true → old ≡ new ++ name ∷ []
      → t ≡ bytes_eq (take (length tag - 1) (drop 1 tag)) name.now → follows table tag (open_names old) ≡ if_goes_on t (open_names new)
  closed tag name old new t h e k =
      slash tag (open_names old) h
      ∙ ap (close (take (length tag - 1) (drop 1 tag))) (ap open_names e ∙ open_push new name)
      ∙ ap (λ t. cond t (Some (open_names new)) None) (sym k)

  -- ---- other tags

  no_slash : (tag : List ℕ) (ns : List (List ℕ)) → starts_with eqb tag (47 ∷ []) ≡ false
      → follows table tag ns ≡ with_open_tag (read_tag (start_rows_of table) [] tag) (read_tag (void_rows_of table) void_end tag) ns
  no_slash [] ns h =
      sym (ap (λ o. with_open_tag o (read_tag (void_rows_of table) void_end []) ns) (no_start table) ∙ ap (λ o. with_open_tag None o ns) (no_void table))
  no_slash (b ∷ bs) ns h =
      cond-false (eqb b 47) (close bs ns) _ (ne_eqb b 47 (λ e. true≢false (sym (ap (λ x. x && true) (eq-eqb 47 b (sym e))) ∙ h)))

  pub started : (tag : List ℕ) (name : Bor (List ℕ)) (old new : List (Bor (List ℕ))) → starts_with eqb tag (47 ∷ []) ≡ false → new ≡ old ++ name ∷ []
      → Some name.now ≡ option_map (λ (t : Tag). t.name) (read_tag (start_rows_of table) [] tag) → follows table tag (open_names old) ≡ Some (open_names new)
  started tag name old new h e k =
      no_slash tag (open_names old) h
      ∙ opened_start (read_tag (start_rows_of table) [] tag) (read_tag (void_rows_of table) void_end tag) name.now (open_names old) k
      ∙ ap (λ x. Some x) (sym (ap open_names e ∙ open_push old name))

  pub stayed : (tag : List ℕ) (t : Bool) (ns : List (List ℕ)) → starts_with eqb tag (47 ∷ []) ≡ false
      → None ≡ option_map (λ (t : Tag). t.name) (read_tag (start_rows_of table) [] tag) → t ≡ is_some (read_tag (void_rows_of table) void_end tag)
      → follows table tag ns ≡ if_goes_on t ns
  stayed tag t ns h k e = no_slash tag ns h ∙ opened_void (read_tag (start_rows_of table) [] tag) (read_tag (void_rows_of table) void_end tag) t ns k e
