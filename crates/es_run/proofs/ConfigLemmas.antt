-- What a configuration comes to is one thing.
use Rattle.std.proofs.Common.{◌≡◌, ℕ, ◌<◌, List, length, sym, ap, subst, arith, ◌∙◌, inl, inr}
use Rattle.std.specs.Prelude.{Some, None, encode_utf8_all}
use Rattle.std.specs.FinMap as finite
use Rattle.serde_json.specs.Data.{Data}
use Rattle.es_config.specs.declared.fault.FaultKind.{FaultKind}
use Rattle.es_config.specs.Entries.{Layer}
use Rattle.es_config.specs.Reading.{ComeTo, IsJson, KnownRules, entries_of}
use Rattle.es_config.specs.Walks.{Walked, good, faulty}
use Rattle.es_files.specs.Outside.{Held, HoldsMore}
use Rattle.es_run.specs.Gathering.{HoldsConfig, most_config_bytes}

pub some_is : {A : Type 0} {a b : A} → Some a ≡ Some b → a ≡ b
some_is h = cc

pub none_some : {A : Type 0} {a : A} → None ≡ Some a → ⊥
none_some h = absurd (cc)

pub good_is : {A : Type 0} {a b : A} → good a ≡ good b → a ≡ b
good_is h = cc

pub good_faulty : {A : Type 0} {a : A} {kind : FaultKind} {pointer : List ℕ} → good a ≡ faulty kind pointer → ⊥
good_faulty h = absurd (cc)

pub same_kind : {A : Type 0} {kind kind' : FaultKind} {pointer pointer' : List ℕ} → ◌≡◌ {A = Walked A} (faulty kind pointer) (faulty kind' pointer') →
    (kind ≡ kind') × (pointer ≡ pointer')
same_kind h = (cc, cc)

-- bytes are the JSON of one value, and come to one thing
module _ (rules : KnownRules) (bytes : List ℕ) where
  same_json : (value value' : Data) → IsJson bytes value → IsJson bytes value' → value ≡ value'
  same_json value value' json json' = some_is (sym json.1 ∙ json'.1)

  pub come_to_one : (walked walked' : Walked (List Layer)) → ComeTo rules bytes walked → ComeTo rules bytes walked' → walked ≡ walked'
  come_to_one walked walked' (inl none) (inl none') = none.1 ∙ sym none'.1
  come_to_one walked walked' (inl none) (inr some) = absurd (none.0 some.0 some.1)
  come_to_one walked walked' (inr some) (inl none) = absurd (none.0 some.0 some.1)
  come_to_one walked walked' (inr some) (inr some') =
      some.2 ∙ ap (entries_of rules) (same_json some.0 some'.0 some.1 some'.1) ∙ sym some'.2

-- the bytes under a name
module _ (held : Held) (name : List ℕ) where
  pub same_bytes : (bytes bytes' : List ℕ) → HoldsConfig held name bytes → HoldsConfig held name bytes' → bytes ≡ bytes'
  same_bytes bytes bytes' config config' = some_is (sym config.found ∙ config'.found)

  pub not_missing : (bytes : List ℕ) → finite.get held (encode_utf8_all name) ≡ None → HoldsConfig held name bytes → ⊥
  not_missing bytes none config = none_some (sym none ∙ config.found)

  pub more_not_missing : finite.get held (encode_utf8_all name) ≡ None → HoldsMore held (encode_utf8_all name) most_config_bytes → ⊥
  more_not_missing none more = none_some (sym none ∙ more.1)

  pub not_more : (bytes : List ℕ) → HoldsMore held (encode_utf8_all name) most_config_bytes → HoldsConfig held name bytes → ⊥
  not_more bytes more config =
      let long = subst (λ b. most_config_bytes < length b) (some_is (sym more.1 ∙ config.found)) more.2 in
      let short = config.short in
      absurd (omega (arith, long, short))

  -- two readings of a configuration
  pub same_walked : (rules : KnownRules) (bytes bytes' : List ℕ) (walked walked' : Walked (List Layer)) →
      HoldsConfig held name bytes → ComeTo rules bytes walked → HoldsConfig held name bytes' → ComeTo rules bytes' walked' → walked ≡ walked'
  same_walked rules bytes bytes' walked walked' config come config' come' =
      come_to_one rules bytes walked walked' come
      (subst (λ b. ComeTo rules b walked') (same_bytes bytes' bytes config' config) come')
