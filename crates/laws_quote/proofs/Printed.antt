-- Squeezing what pieces print.
use Rattle.std.proofs.Common.{◌≡◌, ℕ, List, [], ◌∷◌, ◌++◌, Bool, true, false, Option, None, Some, cond, refl, ap, ◌∙◌}
use Rattle.std.specs.List.{fold}
use Rattle.std.proofs.lemmas.List.Sums.{fold-append}
use Rattle.markdown_options.specs.declared.line_ending.LineEnding.{LineEnding}
use Rattle.markdown_options.specs.declared.line_ending.LineEnding.TheVariants.{CarriageReturnLineFeed, CarriageReturn, LineFeed}
use Rattle.markdown_options.specs.LineEndings.{ending_bytes}
use Rattle.markdown_compile_options.specs.declared.configuration.CompileOptions.{CompileOptions}
use Rattle.definition_text.specs.Lines.{ending_text}
use Rattle.definition_page.specs.Tags.{Words, said_bytes, start_tag, end_tag, void_tag}
use Rattle.definition_page.specs.Pieces.{Piece, Open, Close, Void, Says, Eol, Fresh, Named, CallOf, CountOf, NoteStart, NoteEnd, is_fresh, print}
use Rattle.definition_page.specs.HeadingIds.{with_ids, tag_with_id}
use Rattle.definition_page.specs.Slug.{next_slug, with_slug}
use Rattle.laws_quote.specs.Squeeze.{SqueezeState, with_byte, with_bytes, nothing_yet}
use Rattle.laws_quote.proofs.Bytes.{kept_at_ending, dropped_ending, after_text, bytes_after_text, IsFreshBy, fresh_by}

-- what is squeezed of a page, and the slugs that its headings took
pub record PrintState : Type 0 where
  pub taken : List (List ℕ)
  pub squeezed : SqueezeState

abbrev pub print_state : List (List ℕ) → SqueezeState → PrintState
print_state taken squeezed = record { taken = taken; squeezed = squeezed }

abbrev pub nothing_printed : PrintState
nothing_printed = print_state [] nothing_yet

-- more bytes
abbrev pub with_text : PrintState → List ℕ → PrintState
with_text s bytes = print_state s.taken (with_bytes s.squeezed bytes)

-- what is kept after a text
abbrev pub state_after_text : List ℕ → PrintState → PrintState
state_after_text text s = print_state s.taken (after_text text s.squeezed)

-- a fresh line, by the run before it
abbrev pub with_fresh : LineEnding → SqueezeState → Option (List ℕ) → SqueezeState
with_fresh default s None = s
with_fresh default s (Some []) = with_bytes s (ending_bytes default)
with_fresh default s (Some (b ∷ bs)) = s

-- one more piece after what is squeezed
abbrev pub with_piece : CompileOptions → LineEnding → PrintState → Piece → PrintState
with_piece options default s (Open t) = with_text s (start_tag t)
with_piece options default s (Close name) = with_text s (end_tag name)
with_piece options default s (Void t) = with_text s (void_tag t)
with_piece options default s (Says said) = with_text s (said_bytes said)
with_piece options default s Eol = with_text s (ending_bytes default)
with_piece options default s Fresh = print_state s.taken (with_fresh default s.squeezed s.squeezed.run)
with_piece options default s (Named t text) =
    print_state (with_slug s.taken text) (with_bytes s.squeezed (start_tag (tag_with_id options (next_slug s.taken text) t)))
with_piece options default s (CallOf place label) = s
with_piece options default s (CountOf place label) = s
with_piece options default s NoteStart = s
with_piece options default s NoteEnd = s

abbrev pub with_pieces : CompileOptions → LineEnding → PrintState → List Piece → PrintState
with_pieces options default s ps = fold (with_piece options default) s ps

-- ---- it is what is left of what they print

module _ (default : LineEnding) where
  bytes_append : (out bytes : List ℕ) → with_bytes nothing_yet (out ++ bytes) ≡ with_bytes (with_bytes nothing_yet out) bytes
  bytes_append out bytes = fold-append with_byte nothing_yet out bytes

  fresh_printed : (out : List ℕ) (run : Option (List ℕ)) (fresh : Bool) → (with_bytes nothing_yet out).run ≡ run → IsFreshBy run fresh
      → with_bytes nothing_yet (cond fresh out (out ++ ending_bytes default)) ≡ with_fresh default (with_bytes nothing_yet out) run
  fresh_printed out None true e h = refl
  fresh_printed out None false e h = bytes_append out (ending_bytes default) ∙ dropped_ending (with_bytes nothing_yet out) default e
  fresh_printed out (Some []) fresh e h =
      ap (λ is. with_bytes nothing_yet (cond is out (out ++ ending_bytes default))) h ∙ bytes_append out (ending_bytes default)
  fresh_printed out (Some (b ∷ bs)) fresh e h = ap (λ is. with_bytes nothing_yet (cond is out (out ++ ending_bytes default))) h

  module _ (options : CompileOptions) where
    -- pieces print what they do with the ids of their headings
    abbrev printed_from : List (List ℕ) → List ℕ → List Piece → SqueezeState
    printed_from taken out ps = with_bytes nothing_yet (fold (print (ending_bytes default)) out (with_ids options taken ps))

    abbrev state_from : List (List ℕ) → SqueezeState → List Piece → SqueezeState
    state_from taken s ps = (with_pieces options default (print_state taken s) ps).squeezed

    more_printed : (taken : List (List ℕ)) (ps : List Piece) (out bytes : List ℕ)
        → printed_from taken (out ++ bytes) ps ≡ state_from taken (with_bytes nothing_yet (out ++ bytes)) ps
        → printed_from taken (out ++ bytes) ps ≡ state_from taken (with_bytes (with_bytes nothing_yet out) bytes) ps
    more_printed taken ps out bytes same = same ∙ ap (λ s. state_from taken s ps) (bytes_append out bytes)

    pub pieces_printed : (taken : List (List ℕ)) (ps : List Piece) (out : List ℕ)
        → printed_from taken out ps ≡ state_from taken (with_bytes nothing_yet out) ps
    pieces_printed taken [] out = refl
    pieces_printed taken (Open t ∷ ps) out = more_printed taken ps out (start_tag t) (pieces_printed taken ps (out ++ start_tag t))
    pieces_printed taken (Close name ∷ ps) out = more_printed taken ps out (end_tag name) (pieces_printed taken ps (out ++ end_tag name))
    pieces_printed taken (Void t ∷ ps) out = more_printed taken ps out (void_tag t) (pieces_printed taken ps (out ++ void_tag t))
    pieces_printed taken (Says said ∷ ps) out = more_printed taken ps out (said_bytes said) (pieces_printed taken ps (out ++ said_bytes said))
    pieces_printed taken (Eol ∷ ps) out = more_printed taken ps out (ending_bytes default) (pieces_printed taken ps (out ++ ending_bytes default))
    pieces_printed taken (Fresh ∷ ps) out =
        pieces_printed taken ps (cond (is_fresh out) out (out ++ ending_bytes default))
        ∙ ap (λ s. state_from taken s ps) (fresh_printed out (with_bytes nothing_yet out).run (is_fresh out) refl (fresh_by out))
    pieces_printed taken (Named t text ∷ ps) out =
        let tag = start_tag (tag_with_id options (next_slug taken text) t) in
        more_printed (with_slug taken text) ps out tag (pieces_printed (with_slug taken text) ps (out ++ tag))
    pieces_printed taken (CallOf place label ∷ ps) out = pieces_printed taken ps out
    pieces_printed taken (CountOf place label ∷ ps) out = pieces_printed taken ps out
    pieces_printed taken (NoteStart ∷ ps) out = pieces_printed taken ps out
    pieces_printed taken (NoteEnd ∷ ps) out = pieces_printed taken ps out

  -- ---- more text before all

  fresh_after_text : (text : List ℕ) (s : SqueezeState) (run : Option (List ℕ))
      → with_fresh default (after_text text s) run ≡ after_text text (with_fresh default s run)
  fresh_after_text text s None = refl
  fresh_after_text text s (Some []) = bytes_after_text text (ending_bytes default) s
  fresh_after_text text s (Some (b ∷ bs)) = refl

  module _ (options : CompileOptions) where
    piece_after_text : (text : List ℕ) (s : PrintState) (p : Piece)
        → with_piece options default (state_after_text text s) p ≡ state_after_text text (with_piece options default s p)
    piece_after_text text s (Open t) = ap (print_state s.taken) (bytes_after_text text (start_tag t) s.squeezed)
    piece_after_text text s (Close name) = ap (print_state s.taken) (bytes_after_text text (end_tag name) s.squeezed)
    piece_after_text text s (Void t) = ap (print_state s.taken) (bytes_after_text text (void_tag t) s.squeezed)
    piece_after_text text s (Says said) = ap (print_state s.taken) (bytes_after_text text (said_bytes said) s.squeezed)
    piece_after_text text s Eol = ap (print_state s.taken) (bytes_after_text text (ending_bytes default) s.squeezed)
    piece_after_text text s Fresh = ap (print_state s.taken) (fresh_after_text text s.squeezed s.squeezed.run)
    piece_after_text text s (Named t said) =
        let tag = start_tag (tag_with_id options (next_slug s.taken said) t) in
        ap (print_state (with_slug s.taken said)) (bytes_after_text text tag s.squeezed)
    piece_after_text text s (CallOf place label) = refl
    piece_after_text text s (CountOf place label) = refl
    piece_after_text text s NoteStart = refl
    piece_after_text text s NoteEnd = refl

    pub pieces_after_text : (text : List ℕ) (ps : List Piece) (s : PrintState)
        → with_pieces options default (state_after_text text s) ps ≡ state_after_text text (with_pieces options default s ps)
    pieces_after_text text [] s = refl
    pieces_after_text text (p ∷ ps) s =
        ap (λ t. with_pieces options default t ps) (piece_after_text text s p) ∙ pieces_after_text text ps (with_piece options default s p)

  -- ---- endings

  kept_by_fresh : (s : SqueezeState) (run : Option (List ℕ)) → (with_fresh default s run).kept ≡ s.kept
  kept_by_fresh s None = refl
  kept_by_fresh s (Some []) = kept_at_ending s default
  kept_by_fresh s (Some (b ∷ bs)) = refl

  -- a fresh line keeps what is kept
  pub kept_at_fresh : (s : SqueezeState) → (with_fresh default s s.run).kept ≡ s.kept
  kept_at_fresh s = kept_by_fresh s s.run

-- so does an ending that is said
pub kept_at_said : (s : SqueezeState) (ending : Option LineEnding) → (with_bytes s (said_bytes (Words (ending_text ending)))).kept ≡ s.kept
kept_at_said s None = refl
kept_at_said s (Some CarriageReturnLineFeed) = refl
kept_at_said s (Some CarriageReturn) = refl
kept_at_said s (Some LineFeed) = refl

-- where runs are dropped that leaves all as it is
pub dropped_said : (s : SqueezeState) (ending : LineEnding) → s.run ≡ None → with_bytes s (said_bytes (Words (ending_bytes ending))) ≡ s
dropped_said s CarriageReturnLineFeed e = dropped_ending s CarriageReturnLineFeed e
dropped_said s CarriageReturn e = dropped_ending s CarriageReturn e
dropped_said s LineFeed e = dropped_ending s LineFeed e
