-- What a call for a page leaves in a buffer, status by status.
use Rattle.std.proofs.Common.{◌≡◌, ◌≤◌, ◌<◌, ◌++◌, ℕ, List, length, drop, refl, sym, subst, arith}
use Rattle.markdown_compile_options.specs.declared.configuration.Options.{Options}
use Rattle.markdown_definition.specs.Html.{html}
use Rattle.markdown_tables.specs.Builtin.{builtin_tables}
use Rattle.markdown_buffers.specs.Pages.{HoldsPage, OfPage, StoresPage}

-- nothing is stored
pub no_page : (Meant : Options → Type 0) (text old new : List ℕ) (size status : ℕ) → 1 < status → new ≡ old → size ≡ 0
    → StoresPage Meant text old new size status
no_page Meant text old new size status more is none = record {
  ok = λ e. absurd (omega (arith, more, e));
  unchanged = λ _. is;
  stored = λ e. absurd (omega (arith, more, e));
  room = λ e. absurd (omega (arith, more, e));
  none = λ _. none;
}

of_page : (options : Options) (text page : List ℕ) (P : List ℕ → Type 0) → page ≡ html builtin_tables text options → P page → OfPage (λ it. it ≡ options) text P
of_page options text page P is p = record { options = options; meant = refl; holds = subst P is p }

-- the page has no room
pub page_without_room : (options : Options) (text page old new : List ℕ) (size status : ℕ) → page ≡ html builtin_tables text options → status ≡ 1
    → new ≡ old → size ≡ length page → length old < size → StoresPage (λ it. it ≡ options) text old new size status
page_without_room options text page old new size status is one same has more = record {
  ok = λ e. absurd (omega (arith, one, e));
  unchanged = λ _. same;
  stored = λ _. of_page options text page (λ it. size ≡ length it) is has;
  room = λ _. ((λ e. absurd (omega (arith, one, e))), (λ le. absurd (omega (arith, more, le))));
  none = λ e. absurd (omega (arith, one, e));
}

-- the page is in the buffer
pub page_in_buffer : (options : Options) (text page old new : List ℕ) (size status : ℕ) → page ≡ html builtin_tables text options → status ≡ 0
    → new ≡ page ++ drop (length page) old → size ≡ length page → size ≤ length old → StoresPage (λ it. it ≡ options) text old new size status
page_in_buffer options text page old new size status is ok holds has le = record {
  ok = λ _. of_page options text page (λ it. HoldsPage it old new) is holds;
  unchanged = λ h. absurd (h ok);
  stored = λ _. of_page options text page (λ it. size ≡ length it) is has;
  room = λ _. ((λ _. le), (λ _. ok));
  none = λ e. absurd (omega (arith, ok, e));
}

-- the options are what was meant
pub page_meant : (Meant : Options → Type 0) (options : Options) (text old new : List ℕ) (size status : ℕ) → Meant options
    → StoresPage (λ it. it ≡ options) text old new size status → StoresPage Meant text old new size status
page_meant Meant options text old new size status meant h = record {
  ok = λ e. mean (h.ok e);
  unchanged = h.unchanged;
  stored = λ e. mean (h.stored e);
  room = h.room;
  none = h.none;
}
  where
    mean : {P : List ℕ → Type 0} → OfPage (λ it. it ≡ options) text P → OfPage Meant text P
    mean p = record { options = p.options; meant = subst Meant (sym p.meant) meant; holds = p.holds }
