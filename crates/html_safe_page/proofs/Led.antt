-- How far a page is read, and which tags are open there.
use Rattle.std.proofs.Common.{◌≡◌, ℕ, suc, ◌+◌, ◌-◌, ◌<◌, ◌≤◌, List, [], ◌∷◌, ◌++◌, Bool, true, false, ◌&&◌, cond, eqb, Option, None, Some, length, take, drop}
use Rattle.std.proofs.Common.{refl, sym, ap, ◌∙◌, subst, inl, inr, append_assoc, arith}
use Rattle.std.specs.List.{list_all}
use Rattle.std.specs.Option.{IfSome, option_map}
use Rattle.std.specs.Str.{bytes_eq}
use Rattle.std.proofs.Math.Seq.{take-append_seam, take-append-add, take-length}
use Rattle.std.proofs.lemmas.Bool.{cases_Bool, cases_lt, cond_both, cond-true, cond-false, false≢true, and_parts, and_from, eqb-true, eq-eqb, ne_eqb}
use Rattle.std.proofs.lemmas.List.{append-nil, take-append-drop, length-append}
use Rattle.html_safe_page.specs.Table.{start_rows_of, void_rows_of}
use Rattle.html_safe_page.specs.SafePage.{kind, Tag, void_end, IsSafePageBy}
use Rattle.html_safe_page.specs.Reader.{QuotedText, longer, read_tag, read}
use Rattle.html_safe_page.specs.Machine.{may_stand, split_tag, close, with_open_tag, follows, after_letters, Next, next, after_split, after_tag}
use Rattle.html_safe_page.specs.Place.{end_tags, IsBeginning, IsUnsafeAt}
use Rattle.html_safe_page.proofs.Options.{map_if}
use Rattle.html_safe_page.proofs.Text.{split}
use Rattle.html_safe_page.proofs.Spelled.{bytes_same, is_word, is_worded_list, IsRead, tag_sound, listed_worded}
use Rattle.html_safe_page.proofs.Pages.{is_inner, all_inner, name_inner, start_words}
use Rattle.html_safe_page.proofs.Steps.{closes, letter_more, no_tag, bad_tag, good_tag}
use Rattle.html_safe_page.proofs.Follow.{shorter}
use Rattle.html_safe_page.proofs.Passed.{not_true, is_stuck, stops, letters_stuck, stuck_stops}
use Rattle.html_safe_page.proofs.Inserted.{stands_kept, with_more, split_before, split_found, closes_safe, safe_closed}
use Rattle.html_safe_page.specs.declared.table.TagTable.{TagTable}

-- ---- letters

not_less : (b : ℕ) (bs : List ℕ) → may_stand b bs ≡ true → eqb b 60 ≡ false
not_less b bs h = ne_eqb b 60 (λ e. false≢true (ap (λ b. may_stand b bs) (sym e) ∙ h))

-- ---- tags

-- a tag is split off by itself
pub record IsSplit (bytes : List ℕ) (q : QuotedText) : Type 0 where
  pub parts : bytes ≡ (q.inside ++ 62 ∷ []) ++ q.rest
  pub alone : split_tag (q.inside ++ 62 ∷ []) ≡ Some (split q.inside [])

is_split : (bytes : List ℕ) → IfSome (split_tag bytes) (IsSplit bytes)
is_split [] = tt
is_split (b ∷ bs) =
    let later = option_map (longer b) (split_tag bs) in
    cond_both (eqb b 62) (Some (split [] bs)) (cond (eqb b 60) None later) (λ o. IfSome o (IsSplit (b ∷ bs)))
    (λ e. record { parts = ap (λ b. b ∷ bs) (eqb-true b 62 e); alone = refl })
    (λ e. cond_both (eqb b 60) None later (λ o. IfSome o (IsSplit (b ∷ bs))) (λ _. tt)
    (λ k. map_if (split_tag bs) (longer b) (IsSplit bs) (IsSplit (b ∷ bs)) (is_split bs)
    (λ q h. record {
      parts = ap (λ x. b ∷ x) h.parts;
      alone =
          cond-false (eqb b 62) _ _ e
          ∙ cond-false (eqb b 60) None _ k
          ∙ ap (option_map (longer b)) h.alone;
    })))

itself : {A : Type 0} (o : Option A) → IfSome o (λ a. o ≡ Some a)
itself None = tt
itself (Some a) = refl

-- ---- names of open tags

abbrev pub are_inner : List (List ℕ) → Bool
are_inner names = list_all all_inner names

inner_closed : (name : List ℕ) (ns : List (List ℕ)) → are_inner ns ≡ true → IfSome (close name ns) (λ ms. are_inner ms ≡ true)
inner_closed name [] h = tt
inner_closed name (n ∷ ns) h =
    cond_both (bytes_eq name n) (Some ns) None (λ o. IfSome o (λ ms. are_inner ms ≡ true)) (λ _. (and_parts (all_inner n) (are_inner ns) h).1) (λ _. tt)

-- ---- end tags

inner_split : (name after : List ℕ) → all_inner name ≡ true → split_tag (name ++ (62 ∷ after)) ≡ Some (split name after)
inner_split [] after h = refl
inner_split (b ∷ bs) after h =
    let parts = and_parts (is_inner (kind b)) (all_inner bs) h in
    cond-false (eqb b 62) _ _ (ne_eqb b 62 (λ e. false≢true (ap (λ b. is_inner (kind b)) (sym e) ∙ parts.0)))
    ∙ cond-false (eqb b 60) None _ (ne_eqb b 60 (λ e. false≢true (ap (λ b. is_inner (kind b)) (sym e) ∙ parts.0)))
    ∙ ap (option_map (longer b)) (inner_split bs after parts.1)

ends_stop : (ns : List (List ℕ)) → stops (end_tags ns) ≡ true
ends_stop [] = refl
ends_stop (n ∷ ns) = refl

-- ---- where nothing follows

-- a beginning of a tag that isn't whole is no tag before end tags
no_split : (bytes : List ℕ) (ms : List (List ℕ)) → split_tag bytes ≡ None → split_tag (bytes ++ end_tags ms) ≡ None
no_split bytes [] e = ap split_tag (append-nil bytes) ∙ e
no_split bytes (m ∷ ms) e =
    let end = 47 ∷ (m ++ (62 ∷ end_tags ms)) in
    split_before bytes end ∙ ap (option_map (with_more (60 ∷ end))) e

mapped_none : {A B : Type 0} (f : A → B) (o : Option A) → option_map f o ≡ None → o ≡ None
mapped_none f None h = refl
mapped_none f (Some a) h = cc

-- ---- the page

pub nothing_left : (bytes : List ℕ) → length bytes ≡ 0 → bytes ≡ []
nothing_left [] h = refl
nothing_left (b ∷ bs) h = absurd (omega (arith, h))

module _ (table : TagTable) where
  -- ---- reading on

  -- bytes with these tags open are read table on to the rest, after which those are open
  pub record IsLed (bytes rest : List ℕ) (from to : List (List ℕ)) : Type 0 where
    pub ahead : List ℕ
    pub parts : bytes ≡ ahead ++ rest
    pub leads : (others : List ℕ) → closes (read table (ahead ++ others)) from ≡ closes (read table others) to

  pub no_lead : (bytes : List ℕ) (ns : List (List ℕ)) → IsLed bytes bytes ns ns
  no_lead bytes ns = record { ahead = []; parts = refl; leads = λ others. refl }

  pub then_lead : (a b c : List ℕ) (ns ms ks : List (List ℕ)) → IsLed a b ns ms → IsLed b c ms ks → IsLed a c ns ks
  then_lead a b c ns ms ks one two = record {
    ahead = one.ahead ++ two.ahead;
    parts = one.parts ∙ ap (λ x. one.ahead ++ x) two.parts ∙ sym (append_assoc one.ahead two.ahead c);
    leads = λ others.
        ap (λ x. closes (read table x) ns) (append_assoc one.ahead two.ahead others)
        ∙ one.leads (two.ahead ++ others)
        ∙ two.leads others;
  }

  -- ---- letters

  letter_led : (b : ℕ) (bs : List ℕ) (ns : List (List ℕ)) → may_stand b bs ≡ true → IsLed bs (after_letters bs) ns ns
      → IsLed (b ∷ bs) (after_letters bs) ns ns
  letter_led b bs ns h led = record {
    ahead = b ∷ led.ahead;
    parts = ap (λ x. b ∷ x) led.parts;
    leads = λ others.
        let more = led.ahead ++ others in
        let stands : may_stand b more ≡ true =
        stands_kept (kind b) led.ahead (after_letters bs) others (stuck_stops (after_letters bs) (letters_stuck bs))
        (ap (may_stand b) (sym led.parts) ∙ h) in
        letter_more table b more ns (not_less b more stands)
        ∙ ap (λ t. t && closes (read table more) ns) stands
        ∙ led.leads others;
  }

  pub letters_led : (bytes : List ℕ) (ns : List (List ℕ)) → IsLed bytes (after_letters bytes) ns ns
  letters_led [] ns = no_lead [] ns
  letters_led (b ∷ bs) ns =
      elim (cases_Bool (may_stand b bs)) [
        | inl e ↦
            subst (λ x. IsLed (b ∷ bs) x ns ns) (sym (cond-true (may_stand b bs) (after_letters bs) (b ∷ bs) e)) (letter_led b bs ns e (letters_led bs ns))
        | inr e ↦ subst (λ x. IsLed (b ∷ bs) x ns ns) (sym (cond-false (may_stand b bs) (after_letters bs) (b ∷ bs) e)) (no_lead (b ∷ bs) ns)
      ]

  -- ---- tags

  tag_led : (bytes : List ℕ) (ns ms : List (List ℕ)) (q : QuotedText) → split_tag bytes ≡ Some q → follows table q.inside ns ≡ Some ms
      → IsLed (60 ∷ bytes) q.rest ns ms
  tag_led bytes ns ms q e k =
      let h : IsSplit bytes q = subst (λ o. IfSome o (IsSplit bytes)) e (is_split bytes) in
      let tag = q.inside ++ 62 ∷ [] in
      record {
        ahead = 60 ∷ tag;
        parts = ap (λ x. 60 ∷ x) h.parts;
        leads = λ others. good_tag table (tag ++ others) ns ms (split q.inside others) (split_found tag others (split q.inside []) h.alone) k;
      }

  -- ---- names of open tags

  inner_opened : (bytes : List ℕ) (start void : Option Tag) (ns : List (List ℕ)) → IfSome start (IsRead (start_rows_of table) [] bytes) → are_inner ns ≡ true
      → IfSome (with_open_tag start void ns) (λ ms. are_inner ms ≡ true)
  inner_opened bytes (Some tag) void ns r h =
      and_from (all_inner tag.name) (are_inner ns)
      (name_inner tag.name (and_parts (is_word tag.name) (is_worded_list tag.attributes)
      (listed_worded (start_rows_of table) tag (start_words table) r.listed)).0) h
  inner_opened bytes None (Some tag) ns r h = h
  inner_opened bytes None None ns r h = tt

  inner_follows : (tag : List ℕ) (ns : List (List ℕ)) → are_inner ns ≡ true → IfSome (follows table tag ns) (λ ms. are_inner ms ≡ true)
  inner_follows [] ns h = tt
  inner_follows (b ∷ bs) ns h =
      let start = read_tag (start_rows_of table) [] (b ∷ bs) in
      let void = read_tag (void_rows_of table) void_end (b ∷ bs) in
      cond_both (eqb b 47) (close bs ns) (with_open_tag start void ns) (λ o. IfSome o (λ ms. are_inner ms ≡ true)) (λ _. inner_closed bs ns h)
      (λ _. inner_opened (b ∷ bs) start void ns (tag_sound (start_rows_of table) [] (b ∷ bs)) h)

  -- ---- a tag, and what is next

  pub record IsTagged (bytes : List ℕ) (ns : List (List ℕ)) (n : Next) : Type 0 where
    pub led : IsLed bytes n.rest ns n.names
    pub inner : are_inner ns ≡ true → are_inner n.names ≡ true
    pub fewer : length n.rest < length bytes

  split_tagged : (bytes : List ℕ) (ns : List (List ℕ)) (o : Option QuotedText) → split_tag bytes ≡ o
      → IfSome (after_split table o ns) (IsTagged (60 ∷ bytes) ns)
  split_tagged bytes ns None e = tt
  split_tagged bytes ns (Some q) e =
      map_if (follows table q.inside ns) (next q.rest) (λ ms. follows table q.inside ns ≡ Some ms) (IsTagged (60 ∷ bytes) ns)
      (itself (follows table q.inside ns))
      (λ ms k.
      let less = shorter bytes q (sym e) in
      record {
        led = tag_led bytes ns ms q e k;
        inner = λ h. subst (λ o. IfSome o (λ ms. are_inner ms ≡ true)) k (inner_follows q.inside ns h);
        fewer = omega (arith, less);
      })

  pub tagged : (bytes : List ℕ) (ns : List (List ℕ)) → IfSome (after_tag table bytes ns) (IsTagged bytes ns)
  tagged [] ns = tt
  tagged (b ∷ bs) ns =
      cond_both (eqb b 60) (after_split table (split_tag bs) ns) None (λ o. IfSome o (IsTagged (b ∷ bs) ns))
      (λ e. subst (λ b. IfSome (after_split table (split_tag bs) ns) (IsTagged (b ∷ bs) ns)) (sym (eqb-true b 60 e)) (split_tagged bs ns (split_tag bs) refl))
      (λ _. tt)

  at_less : (bytes : List ℕ) (first : ℕ) (after : List ℕ) (ns : List (List ℕ)) → bytes ≡ first ∷ after → first ≡ 60
      → after_tag table bytes ns ≡ after_split table (split_tag after) ns
  at_less bytes first after ns e h =
      ap (λ x. after_tag table x ns) e ∙ cond-true (eqb first 60) (after_split table (split_tag after) ns) None (eq-eqb first 60 h)

  pub tag_at_end : (bytes : List ℕ) (ns : List (List ℕ)) → length bytes ≡ 0 → after_tag table bytes ns ≡ None
  tag_at_end [] ns h = refl
  tag_at_end (b ∷ bs) ns h = absurd (omega (arith, h))

  pub tag_other : (bytes : List ℕ) (first : ℕ) (after : List ℕ) (ns : List (List ℕ)) → bytes ≡ first ∷ after → (first ≡ 60 → ⊥)
      → after_tag table bytes ns ≡ None
  tag_other bytes first after ns e h =
      ap (λ x. after_tag table x ns) e ∙ cond-false (eqb first 60) (after_split table (split_tag after) ns) None (ne_eqb first 60 h)

  pub tag_unended : (bytes : List ℕ) (first : ℕ) (after : List ℕ) (ns : List (List ℕ)) → bytes ≡ first ∷ after → first ≡ 60 → split_tag after ≡ None
      → after_tag table bytes ns ≡ None
  tag_unended bytes first after ns e h none = at_less bytes first after ns e h ∙ ap (λ o. after_split table o ns) none

  pub tag_refused : (bytes : List ℕ) (first : ℕ) (after : List ℕ) (ns : List (List ℕ)) → bytes ≡ first ∷ after → first ≡ 60
      → (q : QuotedText) → split_tag after ≡ Some q → follows table q.inside ns ≡ None
      → after_tag table bytes ns ≡ None
  tag_refused bytes first after ns e h q k none =
      at_less bytes first after ns e h ∙ ap (λ o. after_split table o ns) k ∙ ap (option_map (next q.rest)) none

  pub tag_passed : (bytes : List ℕ) (first : ℕ) (after : List ℕ) (ns ms : List (List ℕ)) → bytes ≡ first ∷ after → first ≡ 60
      → (q : QuotedText) → split_tag after ≡ Some q → follows table q.inside ns ≡ Some ms
      → after_tag table bytes ns ≡ Some (next q.rest ms)
  tag_passed bytes first after ns ms e h q k some =
      at_less bytes first after ns e h ∙ ap (λ o. after_split table o ns) k ∙ ap (option_map (next q.rest)) some

  -- ---- end tags

  pub ends_close : (ns : List (List ℕ)) → are_inner ns ≡ true → closes (read table (end_tags ns)) ns ≡ true
  ends_close [] h = refl
  ends_close (n ∷ ns) h =
      let parts = and_parts (all_inner n) (are_inner ns) h in
      good_tag table (47 ∷ (n ++ (62 ∷ end_tags ns))) (n ∷ ns) ns (split (47 ∷ n) (end_tags ns))
      (ap (option_map (longer 47)) (inner_split n (end_tags ns) parts.0))
      (cond-true (bytes_eq n n) (Some ns) None (bytes_same n))
      ∙ ends_close ns parts.1

  -- ---- where nothing follows

  module _ (front back : List ℕ) (ns ms : List (List ℕ)) (none : after_split table (split_tag (front ++ back)) ns ≡ None) where
    tag_closes : (o : Option QuotedText) → split_tag front ≡ o → closes (read table (60 ∷ (front ++ end_tags ms))) ns ≡ false
    tag_closes None e = no_tag table (front ++ end_tags ms) ns (no_split front ms e)
    tag_closes (Some q) e =
        bad_tag table (front ++ end_tags ms) ns (with_more (end_tags ms) q) (split_found front (end_tags ms) q e)
        (mapped_none (next (q.rest ++ back)) (follows table q.inside ns) (ap (λ o. after_split table o ns) (sym (split_found front back q e)) ∙ none))

  -- no more of bytes is followed by end tags, where neither a letter nor a tag follows table
  pub blocked : (b : ℕ) (front back : List ℕ) (ns ms : List (List ℕ)) → is_stuck (b ∷ (front ++ back)) ≡ true → after_tag table (b ∷ (front ++ back)) ns ≡ None
      → closes (read table (b ∷ (front ++ end_tags ms))) ns ≡ false
  blocked b front back ns ms s h =
      elim (cases_Bool (eqb b 60)) [
        | inl e ↦
            let none : after_split table (split_tag (front ++ back)) ns ≡ None =
            sym (cond-true (eqb b 60) (after_split table (split_tag (front ++ back)) ns) None e) ∙ h in
            ap (λ b. closes (read table (b ∷ (front ++ end_tags ms))) ns) (eqb-true b 60 e)
            ∙ tag_closes front back ns ms none (split_tag front) refl
        | inr e ↦
            letter_more table b (front ++ end_tags ms) ns e
            ∙ ap (λ t. t && closes (read table (front ++ end_tags ms)) ns) (stuck_still (may_stand b (front ++ end_tags ms)) (may_stand b (front ++ back))
            (stands_kept (kind b) front (end_tags ms) back (ends_stop ms)) (not_true (may_stand b (front ++ back)) s))
      ]
    where
      stuck_still : (t u : Bool) → (t ≡ true → u ≡ true) → u ≡ false → t ≡ false
      stuck_still true u h k = absurd (false≢true (sym k ∙ h refl))
      stuck_still false u h k = refl

  -- ---- the page

  -- where a page is read table to, up to a place where neither a letter nor a tag follows table
  pub record IsReached (page rest : List ℕ) (ns : List (List ℕ)) : Type 0 where
    pub led : IsLed page rest [] ns
    pub inner : are_inner ns ≡ true
    pub stuck : is_stuck rest ≡ true

  pub reached_first : (page : List ℕ) → IsReached page (after_letters page) []
  reached_first page = record { led = letters_led page []; inner = refl; stuck = letters_stuck page }

  -- past a tag and letters
  pub reached_more : (page rest : List ℕ) (ns : List (List ℕ)) (n : Next) → IsReached page rest ns → after_tag table rest ns ≡ Some n
      → IsReached page (after_letters n.rest) n.names
  reached_more page rest ns n h e =
      let t : IsTagged rest ns n = subst (λ o. IfSome o (IsTagged rest ns)) e (tagged rest ns) in
      record {
        led = then_lead page rest (after_letters n.rest) [] ns n.names h.led
            (then_lead rest n.rest (after_letters n.rest) ns n.names n.names t.led (letters_led n.rest n.names));
        inner = t.inner h.inner;
        stuck = letters_stuck n.rest;
      }

  pub reached_shorter : (rest : List ℕ) (ns : List (List ℕ)) (n : Next) → after_tag table rest ns ≡ Some n → length n.rest < length rest
  reached_shorter rest ns n e = let t : IsTagged rest ns n = subst (λ o. IfSome o (IsTagged rest ns)) e (tagged rest ns) in t.fewer

  -- a page that is read table whole, with no tag left open
  pub reached_safe : (page rest : List ℕ) → rest ≡ [] → IsReached page rest [] → IsSafePageBy table page
  reached_safe page rest e h =
      safe_closed table page
      (ap (λ x. closes (read table x) []) h.led.parts ∙ h.led.leads rest ∙ ap (λ x. closes (read table x) []) e)

  module _ (page rest : List ℕ) (ns : List (List ℕ)) (h : IsReached page rest ns) (last : after_tag table rest ns ≡ None) where
    -- no longer beginning of the page is followed by end tags
    no_longer : (r : List ℕ) (k : ℕ) (ms : List (List ℕ)) → r ≡ rest → 0 < k → 0 < length r
        → IsSafePageBy table (take (length h.led.ahead + k) page ++ end_tags ms) → ⊥
    no_longer [] k ms e pos some safe = omega (arith, some)
    no_longer (b ∷ bs) k ms e pos some safe =
        let front = take (k - 1) bs in
        let back = drop (k - 1) bs in
        let whole : b ∷ (front ++ back) ≡ rest = ap (λ x. b ∷ x) (take-append-drop (k - 1) bs) ∙ e in
        let count : k ≡ suc (k - 1) = omega (arith, pos) in
        let taken : take (length h.led.ahead + k) page ≡ h.led.ahead ++ (b ∷ front) =
        ap (take (length h.led.ahead + k)) h.led.parts
        ∙ take-append-add h.led.ahead rest k
        ∙ ap (λ x. h.led.ahead ++ take k x) (sym e)
        ∙ ap (λ n. h.led.ahead ++ take n (b ∷ bs)) count in
        let closed : closes (read table (b ∷ (front ++ end_tags ms))) ns ≡ true =
        sym (h.led.leads (b ∷ (front ++ end_tags ms)))
        ∙ ap (λ x. closes (read table x) []) (sym (append_assoc h.led.ahead (b ∷ front) (end_tags ms)) ∙ ap (λ x. x ++ end_tags ms) (sym taken))
        ∙ closes_safe table (take (length h.led.ahead + k) page ++ end_tags ms) safe in
        false≢true (sym (blocked b front back ns ms (ap is_stuck whole ∙ h.stuck) (ap (λ x. after_tag table x ns) whole ∙ last)) ∙ closed)

    place_longest : (m : ℕ) → m ≤ length page → IsBeginning table (take m page) → m ≤ length h.led.ahead
    place_longest m le begins =
        let all : length page ≡ length h.led.ahead + length rest = ap length h.led.parts ∙ length-append h.led.ahead rest in
        elim (cases_lt (length h.led.ahead) m) [
          | inr fits ↦ fits
          | inl more ↦
              let k = m - length h.led.ahead in
              let sum : m ≡ length h.led.ahead + k = omega (arith, more) in
              absurd (no_longer rest k begins.0 refl (omega (arith, more)) (omega (arith, all, le, more))
              (subst (λ m. IsSafePageBy table (take m page ++ end_tags begins.0)) sum begins.1))
        ]

    open_safe : IsSafePageBy table page → rest ≡ []
    open_safe safe =
        let all : length page ≡ length h.led.ahead + length rest = ap length h.led.parts ∙ length-append h.led.ahead rest in
        let begins : IsBeginning table (take (length page) page) =
        ([], subst (IsSafePageBy table) (sym (append-nil (take (length page) page) ∙ take-length page)) safe) in
        let most = place_longest (length page) (omega arith) begins in
        empty rest (omega (arith, all, most))
      where
        empty : (xs : List ℕ) → length xs ≡ 0 → xs ≡ []
        empty [] h = refl
        empty (x ∷ xs) h = absurd (omega (arith, h))

    pub reached_unsafe : (n : ℕ) → n ≡ length page - length rest → (rest ≡ [] → ns ≡ [] → ⊥) → IsUnsafeAt table page n
    reached_unsafe n e some =
        let all : length page ≡ length h.led.ahead + length rest = ap length h.led.parts ∙ length-append h.led.ahead rest in
        let at : n ≡ length h.led.ahead = omega (arith, all, e) in
        let taken : take n page ≡ h.led.ahead =
        ap (λ n. take n page) at ∙ ap (take (length h.led.ahead)) h.led.parts ∙ take-append_seam h.led.ahead rest in
        record {
          not_safe = λ safe.
              let ended = open_safe safe in
              some ended (none_open ns
              (sym (ap (λ x. closes (read table x) ns) ended) ∙ sym (h.led.leads rest) ∙ ap (λ x. closes (read table x) []) (sym h.led.parts)
              ∙ closes_safe table page safe));
          within = omega (arith, all, at);
          beginning = (
            ns,
            subst (λ x. IsSafePageBy table (x ++ end_tags ns)) (sym taken)
                (safe_closed table (h.led.ahead ++ end_tags ns) (h.led.leads (end_tags ns) ∙ ends_close ns h.inner)),
          );
          longest = λ m le begins. subst (λ x. m ≤ x) (sym at) (place_longest m le begins);
        }
      where
        none_open : (ns : List (List ℕ)) → closes (read table []) ns ≡ true → ns ≡ []
        none_open [] h = refl
        none_open (n ∷ ns) h = absurd (false≢true h)
