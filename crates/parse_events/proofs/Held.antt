-- What is open in a document, one more of it or one less.
use Rattle.std.proofs.Common.{◌≡◌, arith, ℕ, zero, suc, ◌+◌, List, [], ◌∷◌, ◌++◌, Bool, true, false, refl, sym, ap, ap₂, subst, ◌∙◌, get_or, length}
use Rattle.parse_events.proofs.Prelude.{block_names, close_all, closed, ends_in_list, Entered, Err, is_last_list, is_list, is_listed, IsNew, Keeps, Mark}
use Rattle.parse_events.proofs.Prelude.{more_if, Name, Ok, OnOk, opened_name, OpensIf, Parser, Result, Row, still_open, true≢false, Walk}
use Rattle.engine_events.specs.declared.event.Name.TheVariants as n
use Rattle.event_grammar.specs.Void.{is_void}
use Rattle.parse_output.specs.Children.{between_names, holds_blocks, holds_lines, may_enter, may_hold}
use Rattle.parse_output.proofs.Classes.{blocks_lines, blocks_may, lines_may}
use Rattle.parse_lines.specs.Open.{with_entered}
use Rattle.parse_events.specs.Closing.{HasOpen, open_around}
use Rattle.parse_events.specs.declared.opened.Opened.{Opened}
use Rattle.parse_events.specs.declared.opened.Opened.TheVariants as held
use Rattle.parse_events.specs.Opened.{AreHeld, enter_all}

pub close_last : (os : List Opened) (o : Opened) (marks : List Mark) → close_all (os ++ o ∷ []) marks ≡ close_all os (closed (opened_name o) marks)
close_last [] o marks = refl
close_last (first ∷ os) o marks = ap (closed (opened_name first)) (close_last os o marks)

enter_last : (os : List Opened) (o : Opened) (marks : List Mark) → enter_all (os ++ o ∷ []) marks ≡ Entered (opened_name o) ∷ enter_all os marks
enter_last [] o marks = refl
enter_last (first ∷ os) o marks = enter_last os o (Entered (opened_name first) ∷ marks)

closed_entered : (o : Opened) (marks : List Mark) → closed (opened_name o) (Entered (opened_name o) ∷ marks) ≡ marks
closed_entered held.Quote marks = refl
closed_entered held.Item marks = refl
closed_entered held.Footnote marks = refl
closed_entered held.OrderedList marks = refl
closed_entered held.UnorderedList marks = refl

none_held : (marks : List Mark) → holds_blocks marks ≡ true → AreHeld [] marks
none_held marks holds = record { entered = refl; blocks = holds }

-- a parser in which nothing is open, where a walk stands in what may hold blocks
module _ {A : Type 0} (rows : List Row) (w : Walk A) (parser : Parser A) (new : IsNew rows w parser) where
  pub new_around : open_around parser ≡ still_open w
  new_around =
      ap (λ (os : List Opened). close_all os (still_open parser.walk)) new.lists ∙ ap (λ (x : Walk A). still_open x) new.walk

  pub new_holds : holds_blocks (still_open w) ≡ true → HasOpen parser
  new_holds holds =
      subst (λ (os : List Opened). AreHeld os (still_open parser.walk)) (sym new.lists) (
      subst (λ (x : Walk A). AreHeld [] (still_open x)) (sym new.walk) (none_held (still_open w) holds))

-- one more
pub around_more : (os : List Opened) (o : Opened) (marks : List Mark) → close_all (os ++ o ∷ []) (Entered (opened_name o) ∷ marks) ≡ close_all os marks
around_more os o marks = close_last os o (Entered (opened_name o) ∷ marks) ∙ ap (close_all os) (closed_entered o marks)

pub held_more : (os : List Opened) (o : Opened) (marks : List Mark) → AreHeld os marks → AreHeld (os ++ o ∷ []) (Entered (opened_name o) ∷ marks)
held_more os o marks are = record {
  entered =
      ap (λ ms. Entered (opened_name o) ∷ ms) are.entered ∙ sym (enter_last os o (close_all os marks))
      ∙ ap (enter_all (os ++ o ∷ [])) (sym (around_more os o marks));
  blocks = ap holds_blocks (around_more os o marks) ∙ are.blocks;
}

-- one less
pub held_less : (os : List Opened) (o : Opened) (marks : List Mark) → AreHeld (os ++ o ∷ []) marks → AreHeld os (closed (opened_name o) marks)
held_less os o marks are =
    let base = close_all (os ++ o ∷ []) marks in
    record {
      entered =
          ap (closed (opened_name o)) (are.entered ∙ enter_last os o base) ∙ closed_entered o (enter_all os base)
          ∙ ap (enter_all os) (close_last os o marks);
      blocks = ap holds_blocks (sym (close_last os o marks)) ∙ are.blocks;
    }

-- ---- a parser after a call

module _ {A : Type 0} where
  -- its walk keeps what is open
  pub kept_open : (old new : Parser A) → new.open.items ≡ old.open.items → HasOpen old → still_open new.walk ≡ still_open old.walk → Keeps old new
  kept_open old new lists was same = record {
    around = ap (λ (os : List Opened). close_all os (still_open new.walk)) lists ∙ ap (close_all old.open.items) same;
    held = subst (λ (os : List Opened). AreHeld os (still_open new.walk)) (sym lists) (subst (AreHeld old.open.items) (sym same) was);
  }

  pub kept_both : (old mid new : Parser A) → Keeps old mid → Keeps mid new → Keeps old new
  kept_both old mid new one two = record { around = two.around ∙ one.around; held = two.held }

  -- no list is open where none was
  pub in_no_list : (old now : Parser A) (in_list : Bool) → in_list ≡ true → in_list ≡ ends_in_list now.open.items → now ≡ record old { first = false }
      → ends_in_list old.open.items ≡ false → ⊥
  in_no_list old now in_list listed is same none = true≢false (sym listed ∙ is ∙ ap (λ (p : Parser A). ends_in_list p.open.items) same ∙ none)

  -- one more is open, if it starts
  opened_kept : (o : Opened) (starts : Bool) (old new : Parser A) → HasOpen old → new.open.items ≡ more_if starts o old.open.items
      → still_open new.walk ≡ with_entered starts (opened_name o) (still_open old.walk) → Keeps old new
  opened_kept o false old new was lists same = kept_open old new lists was same
  opened_kept o true old new was lists same =
      let os = old.open.items in
      let marks = still_open old.walk in
      record {
        around =
            ap (λ (all : List Opened). close_all all (still_open new.walk)) lists ∙ ap (close_all (os ++ o ∷ [])) same ∙ around_more os o marks;
        held =
            subst (λ (all : List Opened). AreHeld all (still_open new.walk)) (sym lists) (
            subst (AreHeld (os ++ o ∷ [])) (sym same) (held_more os o marks was));
      }

  -- one less is open
  closed_kept : (o : Opened) (old new : Parser A) → HasOpen old → old.open.items ≡ new.open.items ++ o ∷ []
      → still_open new.walk ≡ closed (opened_name o) (still_open old.walk) → Keeps old new
  closed_kept o old new was lists same =
      let os = new.open.items in
      let marks = still_open old.walk in
      record {
        around = ap (close_all os) same ∙ sym (close_last os o marks) ∙ sym (ap (λ (all : List Opened). close_all all marks) lists);
        held = subst (AreHeld os) (sym same) (held_less os o marks (subst (λ (all : List Opened). AreHeld all marks) lists was));
      }

  -- if a call succeeds
  pub walk_kept : {T E : Type 0} (result : Result T E) (old new : Parser A) → new.open.items ≡ old.open.items → HasOpen old
      → OnOk result (still_open new.walk ≡ still_open old.walk) → OnOk result (Keeps old new)
  walk_kept (Ok x) old new lists was same = kept_open old new lists was same
  walk_kept (Err e) old new lists was same = tt

  pub kept_then : {T E : Type 0} (result : Result T E) (old mid new : Parser A) → Keeps old mid → OnOk result (Keeps mid new) → OnOk result (Keeps old new)
  kept_then (Ok x) old mid new one two = kept_both old mid new one two
  kept_then (Err e) old mid new one two = tt

  pub walk_kept_then : {T E : Type 0} (result : Result T E) (old mid new : Parser A) → Keeps old mid → new.open.items ≡ mid.open.items
      → OnOk result (still_open new.walk ≡ still_open mid.walk) → OnOk result (Keeps old new)
  walk_kept_then result old mid new one lists same = kept_then result old mid new one (walk_kept result mid new lists one.held same)

  pub start_kept : {T E : Type 0} (result : Result T E) (o : Opened) (starts : Bool) (old mid started new : Parser A) → Keeps old mid
      → started.open.items ≡ mid.open.items → still_open started.walk ≡ with_entered starts (opened_name o) (still_open mid.walk)
      → OnOk result (OpensIf starts o started new) → OnOk result (Keeps old new)
  start_kept (Ok x) o starts old mid started new one lists same opens =
      kept_both old mid new one (
      opened_kept o starts mid new one.held (opens.lists ∙ ap (more_if starts o) lists) (ap (λ (w : Walk A). still_open w) opens.walk ∙ same))
  start_kept (Err e) o starts old mid started new one lists same opens = tt

  pub exit_kept : {T E : Type 0} (result : Result T E) (o : Opened) (name : Name) (old new : Parser A) → name ≡ opened_name o → HasOpen old
      → old.open.items ≡ new.open.items ++ o ∷ [] → OnOk result (still_open new.walk ≡ closed name (still_open old.walk)) → OnOk result (Keeps old new)
  exit_kept (Ok x) o name old new is was lists same =
      closed_kept o old new was lists (same ∙ ap (λ (n' : Name). closed n' (still_open old.walk)) is)
  exit_kept (Err e) o name old new is was lists same = tt

  -- a list is entered
  pub list_kept : (o : Opened) (name : Name) (old new : Parser A) (between : List Mark) → name ≡ opened_name o → HasOpen old
      → new.open.items ≡ old.open.items ++ o ∷ [] → between ≡ still_open old.walk → still_open new.walk ≡ Entered name ∷ between → Keeps old new
  list_kept o name old new between is was lists kept same =
      opened_kept o true old new was lists (same ∙ ap₂ (λ (n' : Name) (ms : List Mark). Entered n' ∷ ms) is kept)

-- what may stand in the innermost
item_may : (o : Opened) → is_list o ≡ true → may_enter (Entered (opened_name o) ∷ []) n.ListItem ≡ true
unfolding may_enter may_hold
item_may held.Quote is = is
item_may held.Item is = is
item_may held.Footnote is = is
item_may held.OrderedList is = refl
item_may held.UnorderedList is = refl

own_blocks : (o : Opened) → is_list o ≡ false → holds_blocks (Entered (opened_name o) ∷ []) ≡ true
unfolding may_enter may_hold holds_blocks
own_blocks held.Quote is = refl
own_blocks held.Item is = refl
own_blocks held.Footnote is = refl
own_blocks held.OrderedList is = sym is
own_blocks held.UnorderedList is = sym is

own_lines : (o : Opened) → holds_lines (Entered (opened_name o) ∷ []) ≡ true
unfolding may_enter may_hold holds_lines
own_lines held.Quote = refl
own_lines held.Item = refl
own_lines held.Footnote = refl
own_lines held.OrderedList = refl
own_lines held.UnorderedList = refl

items_within : (o : Opened) (os : List Opened) (marks : List Mark) → is_last_list o os ≡ true → may_enter (enter_all (o ∷ os) marks) n.ListItem ≡ true
unfolding may_enter
items_within o [] marks is = item_may o is
items_within o (next ∷ os) marks is = items_within next os (Entered (opened_name o) ∷ marks) is

blocks_within : (o : Opened) (os : List Opened) (marks : List Mark) → is_last_list o os ≡ false → holds_blocks (enter_all (o ∷ os) marks) ≡ true
unfolding may_enter holds_blocks
blocks_within o [] marks is = own_blocks o is
blocks_within o (next ∷ os) marks is = blocks_within next os (Entered (opened_name o) ∷ marks) is

lines_within : (o : Opened) (os : List Opened) (marks : List Mark) → holds_lines (enter_all (o ∷ os) marks) ≡ true
unfolding may_enter holds_lines
lines_within o [] marks = own_lines o
lines_within o (next ∷ os) marks = lines_within next os (Entered (opened_name o) ∷ marks)

items_all : (os : List Opened) (marks : List Mark) → ends_in_list os ≡ true → may_enter (enter_all os marks) n.ListItem ≡ true
items_all [] marks is = absurd (true≢false (sym is))
items_all (o ∷ os) marks is = items_within o os marks is

blocks_all : (os : List Opened) (marks : List Mark) → holds_blocks marks ≡ true → ends_in_list os ≡ false → holds_blocks (enter_all os marks) ≡ true
blocks_all [] marks holds is = holds
blocks_all (o ∷ os) marks holds is = blocks_within o os marks is

lines_all : (os : List Opened) (marks : List Mark) → holds_blocks marks ≡ true → holds_lines (enter_all os marks) ≡ true
lines_all [] marks holds = blocks_lines marks holds
lines_all (o ∷ os) marks holds = lines_within o os marks

pub held_items : (os : List Opened) (marks : List Mark) → AreHeld os marks → ends_in_list os ≡ true → may_enter marks n.ListItem ≡ true
held_items os marks are is =
    subst (λ ms. may_enter ms n.ListItem ≡ true) (sym are.entered) (items_all os (close_all os marks) is)

pub held_blocks : (os : List Opened) (marks : List Mark) → AreHeld os marks → ends_in_list os ≡ false → holds_blocks marks ≡ true
held_blocks os marks are is = subst (λ ms. holds_blocks ms ≡ true) (sym are.entered) (blocks_all os (close_all os marks) are.blocks is)

pub held_lines : (os : List Opened) (marks : List Mark) → AreHeld os marks → holds_lines marks ≡ true
held_lines os marks are = subst (λ ms. holds_lines ms ≡ true) (sym are.entered) (lines_all os (close_all os marks) are.blocks)

pub held_may : (os : List Opened) (marks : List Mark) (name : Name) → AreHeld os marks → is_listed between_names name ≡ true → may_enter marks name ≡ true
held_may os marks name are listed = lines_may marks name (held_lines os marks are) listed

-- a list, and an item in it
list_listed : (o : Opened) → is_list o ≡ true → is_listed (between_names ++ block_names) (opened_name o) ≡ true
list_listed held.Quote is = refl
list_listed held.Item is = absurd (true≢false (sym is))
list_listed held.Footnote is = refl
list_listed held.OrderedList is = refl
list_listed held.UnorderedList is = refl

-- what a parser opens has a row
row_of_opened : (o : Opened) → is_void (opened_name o) ≡ false
row_of_opened held.Quote = refl
row_of_opened held.Item = refl
row_of_opened held.Footnote = refl
row_of_opened held.OrderedList = refl
row_of_opened held.UnorderedList = refl

pub opened_row : (o : Opened) (name : Name) → name ≡ opened_name o → is_void name ≡ false
opened_row o name is = ap (λ (x : Name). is_void x) is ∙ row_of_opened o

pub list_child : (o : Opened) (marks : List Mark) → is_list o ≡ true → holds_blocks marks ≡ true → may_enter marks (opened_name o) ≡ true
list_child o marks is holds = blocks_may marks (opened_name o) holds (list_listed o is)

list_holds_item : (o : Opened) (marks : List Mark) → is_list o ≡ true → may_enter (Entered (opened_name o) ∷ marks) n.ListItem ≡ true
unfolding may_enter
list_holds_item o marks is = item_may o is

pub list_entered : (o : Opened) (name : Name) (marks all : List Mark) → is_list o ≡ true → name ≡ opened_name o → all ≡ Entered name ∷ marks
    → may_enter all n.ListItem ≡ true
list_entered o name marks all is named same =
    ap (λ (ms : List Mark). may_enter ms n.ListItem) (same ∙ ap (λ (n' : Name). Entered n' ∷ marks) named) ∙ list_holds_item o marks is

-- the last of these
pub none_is : (os : List Opened) → length os ≡ 0 → ends_in_list os ≡ false
none_is [] none = refl
none_is (o ∷ os) none = absurd (omega (arith, none))

pub last_is : (os : List Opened) (i : ℕ) (d : Opened) → length os ≡ i + 1 → ends_in_list os ≡ is_list (get_or os i d)
last_is [] i d is = absurd (omega (arith, is))
last_is (o ∷ []) zero d is = refl
last_is (o ∷ []) (suc i) d is = absurd (omega (arith, is))
last_is (o ∷ next ∷ os) zero d is = absurd (omega (arith, is))
last_is (o ∷ next ∷ os) (suc i) d is = last_is (next ∷ os) i d (omega (arith, is))
