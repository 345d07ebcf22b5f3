-- Cursors, and what stands from them on.
use Rattle.std.specs.Prelude.{◌≡◌, ℕ, ◌+◌, ◌<◌, ◌≤◌, List, ◌∷◌, drop, length, nat_eq, true}
use Rattle.std.specs.List.{starts_with}
use Rattle.std.specs.Str.{IsAscii, IsCharBoundary}
use Rattle.es_text.specs.Rest.{rest}
use Rattle.es_lexer.specs.declared.cursor.Cursor.{Cursor}

-- what stands from the cursor on
abbrev pub rest_of : Cursor → List ℕ
rest_of cursor = rest cursor.text.now cursor.offset

-- a cursor in the same text, which isn't before the first one
pub record GoesOn (from to : Cursor) : Type 0 where
  pub text : to.text.now ≡ from.text.now
  pub order : from.offset ≤ to.offset

-- the same, and behind it
pub record StepsOn (from to : Cursor) : Type 0 where
  pub text : to.text.now ≡ from.text.now
  pub order : from.offset < to.offset

-- this character stands at the first cursor, and the second is behind it
pub record StepsOver (from : Cursor) (c : ℕ) (to : Cursor) : Type 0 where
  pub here : rest_of from ≡ c ∷ rest_of to
  pub moves : StepsOn from to

-- this word of ASCII stands at the cursor, and behind it a character begins or the text ends
pub record StandsAt (word : List ℕ) (cursor : Cursor) : Type 0 where
  pub ascii : IsAscii word
  pub begins : starts_with nat_eq (drop cursor.offset cursor.text.now) word ≡ true
  pub behind : IsCharBoundary cursor.text.now (cursor.offset + length word)
