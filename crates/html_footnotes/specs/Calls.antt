-- Numbers of the footnotes that are called.
use Rattle.std.specs.Prelude.{◌≡◌, ℕ, suc, if◌then◌else◌, ◌==◌, List, [], ◌∷◌, slice_index_or, slice_set, string_bytes}
use Rattle.html_bytes.specs.Layout as layout
use Rattle.html_footnotes.specs.declared.calls.CalledFootnote.{CalledFootnote}

-- a footnote that is called
abbrev pub called_view : {A : Type 0} → CalledFootnote A → layout.NoteCalls
called_view c = record { place = c.place; label = string_bytes c.label; count = c.count }

-- a footnote that is called for the first time
abbrev pub called_once : ℕ → List ℕ → layout.NoteCalls
called_once place label = record { place = place; label = label; count = 1 }

-- a footnote that is called once more
abbrev pub with_one_more : layout.NoteCalls → layout.NoteCalls
with_one_more c = record { place = c.place; label = c.label; count = suc c.count }

-- the footnote with this number less one is called once more, and the others aren't
abbrev pub IsRaised : List layout.NoteCalls → List layout.NoteCalls → ℕ → Type 0
IsRaised old new at = (d : layout.NoteCalls) → new ≡ slice_set old at (with_one_more (slice_index_or old at d))

-- the number of the footnote at a place, where the first of these has this number, and 0 where it isn't called
abbrev pub number_from : ℕ → ℕ → List layout.NoteCalls → ℕ
number_from place number [] = 0
number_from place number (c ∷ cs) = if c.place == place then number else number_from place (suc number) cs

-- the number of the footnote at a place, and 0 where it isn't called
abbrev pub number_of : ℕ → List layout.NoteCalls → ℕ
number_of place called = number_from place 1 called

-- these are the numbers of the footnotes by their places
abbrev pub AreNumbers : List ℕ → List layout.NoteCalls → Type 0
AreNumbers numbers called = (place : ℕ) → slice_index_or numbers place 0 ≡ number_of place called
