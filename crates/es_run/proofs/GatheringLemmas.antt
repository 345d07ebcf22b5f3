-- What is gathered of names, one by one.
use Rattle.std.proofs.Common.{◌≡◌, ◌∙◌, ℕ, ◌+◌, ◌++◌, Bool, List, [], ◌∷◌, Ok, Err, Result, append-nil, append_assoc, All, ap, map, refl, subst, sym}
use Rattle.std.proofs.lemmas.List.Elements.{All-append, All-cons, All-nil}
use Rattle.es_config.specs.Outcomes.{Outcome}
use Rattle.es_files.specs.Outside.{Held}
use Rattle.es_run.specs.declared.gathering.Part as code
use Rattle.es_run.specs.declared.status.Fault.{Fault}
use Rattle.es_run.specs.declared.status.Fault.TheVariants as fault
use Rattle.es_run.specs.declared.status.StopCause.{StopCause}
use Rattle.es_run.specs.declared.status.StopCause.TheVariants as cause
use Rattle.es_run.specs.Gathering.{IsOneOf, NamedPart, Part, bytes_in, gathered, part_of, result_map, result_then}
use Rattle.es_files.specs.Outside.{FilesState, HasFailed, reading}
use Rattle.std.specs.Prelude.{encode_utf8_all}
use Rattle.es_run.specs.Stages.{BlamesName, BlamesNames, Tells, name_in, named_part_in, part_in}

-- what is gathered behind these
abbrev pub behind : List NamedPart → Result (List NamedPart) StopCause → Result (List NamedPart) StopCause
behind done told = result_map (λ later. done ++ later) told

pub behind_one : (done : List NamedPart) (one : NamedPart) (told : Result (List NamedPart) StopCause) →
    behind done (result_map (λ later. one ∷ later) told) ≡ behind (done ++ one ∷ []) told
behind_one done one (Ok later) = ap Ok (sym (append_assoc done (one ∷ []) later))
behind_one done one (Err why) = refl

pub behind_none : (done : List NamedPart) → behind done (Ok []) ≡ Ok done
behind_none done = ap Ok (append-nil done)

module _ (inline : Bool) (decides : List ℕ → Outcome) (held : Held) where
  abbrev after : ℕ → List ℕ → List (List ℕ) → Result Part StopCause → Result (List NamedPart) StopCause
  after before name names told =
      result_then (λ part. result_map (λ later. (name, part) ∷ later) (gathered inline decides held (before + bytes_in part) names)) told

  -- one name more
  pub one_gathered : (done : List NamedPart) (before : ℕ) (name : List ℕ) (names : List (List ℕ)) (part : Part) →
      part_of inline held before name (decides name) ≡ Ok part →
      behind done (gathered inline decides held before (name ∷ names))
      ≡ behind (done ++ (name, part) ∷ []) (gathered inline decides held (before + bytes_in part) names)
  one_gathered done before name names part is =
      ap (λ told. behind done (after before name names told)) is
      ∙ behind_one done (name, part) (gathered inline decides held (before + bytes_in part) names)

  -- the first refusal is that of all
  pub one_refused : (done : List NamedPart) (before : ℕ) (name : List ℕ) (names : List (List ℕ)) (why : StopCause) →
      part_of inline held before name (decides name) ≡ Err why →
      behind done (gathered inline decides held before (name ∷ names)) ≡ Err why
  one_refused done before name names why is = ap (λ told. behind done (after before name names told)) is

-- a list with one more, whatever it is of
pub all_more : {X : Type 0} (P : X → Type 0) (xs more : List X) (x : X) → more ≡ xs ++ x ∷ [] → All P xs → P x → All P more
all_more P xs more x is all one = subst (All P) (sym is) (All-append P xs (x ∷ []) all (All-cons P x [] one (All-nil P)))

pub listed_more : {X : Type 0} (all done rest next : List X) (x : X) → all ≡ done ++ rest → rest ≡ x ∷ next → all ≡ (done ++ x ∷ []) ++ next
listed_more all done rest next x is left = is ∙ ap (λ list. done ++ list) left ∙ sym (append_assoc done (x ∷ []) next)

map_more : (parts : List (List ℕ × code.Part)) (one : List ℕ × code.Part) →
    map named_part_in (parts ++ one ∷ []) ≡ map named_part_in parts ++ named_part_in one ∷ []
map_more [] one = refl
map_more (part ∷ parts) one = ap (λ later. named_part_in part ∷ later) (map_more parts one)

name_more : (parts : List (List ℕ × code.Part)) (one : List ℕ × code.Part) → map name_in (parts ++ one ∷ []) ≡ map name_in parts ++ one.0 ∷ []
name_more [] one = refl
name_more (part ∷ parts) one = ap (λ later. part.0 ∷ later) (name_more parts one)

-- the names of the parts, with one more
pub names_more : (parts more : List (List ℕ × code.Part)) (done : List (List ℕ)) (name : List ℕ) (part : code.Part) →
    more ≡ parts ++ (name, part) ∷ [] → map name_in parts ≡ done → map name_in more ≡ done ++ name ∷ []
names_more parts more done name part is named =
    ap (map name_in) is ∙ name_more parts (name, part) ∙ ap (λ names. names ++ name ∷ []) named

module _ (inline : Bool) (decides : List ℕ → Outcome) (held : Held) (all : Result (List NamedPart) StopCause) where
  -- the parts that are kept, with one more
  pub gathered_more : (parts more : List (List ℕ × code.Part)) (before bytes : ℕ) (name : List ℕ) (rest next : List (List ℕ)) (part : code.Part) →
      more ≡ parts ++ (name, part) ∷ [] → bytes ≡ bytes_in (part_in part) → rest ≡ name ∷ next →
      part_of inline held before name (decides name) ≡ Ok (part_in part) →
      behind (map named_part_in parts) (gathered inline decides held before rest) ≡ all →
      behind (map named_part_in more) (gathered inline decides held (before + bytes) next) ≡ all
  gathered_more parts more before bytes name rest next part pushed counted left is so =
      ap (λ (list : List (List ℕ × code.Part)). behind (map named_part_in list) (gathered inline decides held (before + bytes) next)) pushed
      ∙ ap (λ list. behind list (gathered inline decides held (before + bytes) next)) (map_more parts (name, part))
      ∙ ap (λ n. behind (map named_part_in parts ++ (name, part_in part) ∷ []) (gathered inline decides held (before + n) next)) counted
      ∙ sym (one_gathered inline decides held (map named_part_in parts) before name next (part_in part) is)
      ∙ ap (λ (names : List (List ℕ)). behind (map named_part_in parts) (gathered inline decides held before names)) (sym left)
      ∙ so

-- what a fault says of one of them it says of all
pub tells_all : {A B : Type 0} (one : Result A StopCause) (all : Result B StopCause) (given : Fault) →
    ((why : StopCause) → one ≡ Err why → all ≡ Err why) → Tells one given → Tells all given
tells_all one all (fault.Stop (cause.NoFile name)) so told = so (cause.NoFile name) told
tells_all one all (fault.Stop (cause.TooLong name)) so told = so (cause.TooLong name) told
tells_all one all (fault.Stop (cause.TooMuch bytes)) so told = so (cause.TooMuch bytes) told
tells_all one all (fault.Stop (cause.CannotRead name)) so told = told
tells_all one all fault.NoMemory so told = told
tells_all one all (fault.Stop cause.BadWords) so told = told
tells_all one all (fault.Stop (cause.TooMany names)) so told = told
tells_all one all (fault.Stop cause.ConfigMissing) so told = told
tells_all one all (fault.Stop (cause.BadConfig kind pointer)) so told = told
tells_all one all (fault.Stop (cause.CannotWrite name)) so told = told
tells_all one all (fault.Stop cause.CannotPrint) so told = told

module _ (names earlier : List (List ℕ)) (name : List ℕ) (later : List (List ℕ)) (listed : names ≡ earlier ++ name ∷ later) (before now : FilesState) where
  among : (unread : List ℕ) → unread ≡ name → IsOneOf names unread
  among unread same = subst (IsOneOf names) (sym same) (record { earlier = earlier; later = later; listed = listed })

  -- what is to blame on one of the names
  pub blames_one : (given : Fault) → BlamesName name before now given → BlamesNames names before now given
  blames_one (fault.Stop (cause.NoFile missing)) blames = blames
  blames_one (fault.Stop (cause.TooLong long)) blames = blames
  blames_one (fault.Stop (cause.TooMuch bytes)) blames = blames
  blames_one (fault.Stop (cause.CannotRead unread)) blames = (
    among unread blames.0,
    subst (λ (n : List ℕ). HasFailed before (reading (encode_utf8_all n)) now) (sym blames.0) blames.1,
  )
  blames_one fault.NoMemory blames = blames
  blames_one (fault.Stop cause.BadWords) blames = blames
  blames_one (fault.Stop (cause.TooMany count)) blames = blames
  blames_one (fault.Stop cause.ConfigMissing) blames = blames
  blames_one (fault.Stop (cause.BadConfig kind pointer)) blames = blames
  blames_one (fault.Stop (cause.CannotWrite unwritten)) blames = blames
  blames_one (fault.Stop cause.CannotPrint) blames = blames
