-- Numbers of messages are numbers of their tallies.
use Rattle.std.proofs.Common.{◌≡◌, ℕ, suc, ◌+◌, ◌<◌, Bool, true, false, cond, List, [], ◌∷◌, ◌++◌, length, map, take, get_or, refl, ap, ◌∙◌, arith, encode_utf8_all}
use Rattle.std.proofs.lemmas.Str.{encodes-append}
use lib.Utf8.{encode}
use Rattle.std.proofs.lemmas.List.{map-append}
use Rattle.es_messages.specs.declared.message.Message.{Message}
use Rattle.es_format.specs.declared.tally.Tally.{Tally}
use Rattle.es_format.specs.Stylish.{Named, all_messages, end_text, fixable_line, line_end, number_of, numbers_text, summary}
use Rattle.es_format.specs.Tallies.{end_of, number_in, numbers_in, tallied_error, tallied_fixable_error, tallied_fixable_warning, tallied_warning, tally_of}
use Rattle.es_format.proofs.StylishLemmas.{flat_map-step}

length-tallies : (messages : List Message) → length (map tally_of messages) ≡ length messages
length-tallies [] = refl
length-tallies (message ∷ messages) = ap suc (length-tallies messages)

number-more : (is : Bool) (tally : Tally) (message : Message) (tallied : List Tally) (counted : List Message)
    → length tallied ≡ length counted → length (cond is (tally ∷ tallied) tallied) ≡ length (cond is (message ∷ counted) counted)
number-more true tally message tallied counted same = ap suc same
number-more false tally message tallied counted same = same

number-of : (counts : Tally → Bool) (messages : List Message)
    → number_in counts (map tally_of messages) ≡ number_of (λ message. counts (tally_of message)) messages
number-of counts [] = refl
number-of counts (message ∷ messages) =
    number-more (counts (tally_of message)) (tally_of message) message _ _ (number-of counts messages)

numbers-tallies : (messages : List Message) → numbers_in (map tally_of messages) ≡ numbers_text messages
numbers-tallies messages = rw (
  length-tallies messages,
  number-of tallied_error messages,
  number-of tallied_warning messages,
  number-of tallied_fixable_error messages,
  number-of tallied_fixable_warning messages,
)

pub end-tallies : (messages : List Message) → end_of (map tally_of messages) ≡ end_text messages
end-tallies [] = refl
end-tallies (message ∷ messages) = ap (λ text. line_end ++ text) (numbers-tallies (message ∷ messages))

-- the tallies of one more file
pub tallies-step : (results : List Named) (i : ℕ) (named : Named) → i < length results
    → map tally_of (all_messages (take (i + 1) results))
    ≡ map tally_of (all_messages (take i results)) ++ map tally_of (get_or results i named).1.messages
tallies-step results i named within =
    ap (map tally_of) (flat_map-step (λ (n : Named). n.1.messages) results i named within)
    ∙ map-append tally_of (all_messages (take i results)) (get_or results i named).1.messages

-- the bytes of the lines at the end
pub encodes-end : (tallies : List Tally) → 0 < length tallies
    → encode_utf8_all (end_of tallies)
    ≡ line_end ++ (encode_utf8_all
    (summary (length tallies) (number_in tallied_error tallies) (number_in tallied_warning tallies))
    ++ encode_utf8_all
    (fixable_line (number_in tallied_fixable_error tallies) (number_in tallied_fixable_warning tallies)))
unfolding encode
encodes-end [] some = absurd (omega (some, arith))
encodes-end (tally ∷ tallies) some = simp (encodes-append)
