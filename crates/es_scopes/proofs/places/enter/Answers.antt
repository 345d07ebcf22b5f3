use Rattle.std.proofs.Common.{◌≡◌, ◌∙◌, ◌++◌, ◌+◌, length, arith, ap, sym}
use Rattle.es_scopes.specs.declared.scope.ScopeKind.TheVariants.{Field, Name}
use Rattle.es_scopes.specs.Opened.{if_opened, is_field_value, knows_its_name, listed, opened}
use Rattle.es_scopes.specs.Places.{around, first_scope, inside, innermost, nested, own_scope, scopes_at, stands}
use Rattle.es_scopes.proofs.ListLemmas.{filled-more, flat_map-more}
use Rattle.es_scopes.proofs.PlaceLemmas.{AreOpened, length-scopes, opened-length, opened-more, stands-opened}
use Rattle.es_scopes.proofs.places.enter.Goals as goal

pub returns : goal.returns
returns c =
    let rows = c.args.tree.now in
    let node = c.args.node in
    let before = c.args.places.now.scopes.items in
    let outer = c.around-around.result in
    let field = c.if_opened-field.result in
    let name = c.if_opened-name.result in
    let kind = c.kind_scope.result in
    let one : AreOpened before outer (listed field) c.open.new.scopes.items c.in_ok-stands.stands =
    record { scopes = c.in_ok-stands.ensures.scopes; inside = c.in_ok-stands.ensures.inside } in
    let two : AreOpened c.open.new.scopes.items c.in_ok-stands.stands (listed name) c.open-2.new.scopes.items c.in_ok-named.named =
    record { scopes = c.in_ok-named.ensures.scopes; inside = c.in_ok-named.ensures.inside } in
    let three : AreOpened c.open-2.new.scopes.items c.in_ok-named.named (listed kind) c.open-3.new.scopes.items c.in_ok-inside.inside =
    record { scopes = c.in_ok-inside.ensures.scopes; inside = c.in_ok-inside.ensures.inside } in
    let own = opened-more c.open.new.scopes.items c.in_ok-stands.stands (listed name) (listed kind) c.open-2.new.scopes.items c.open-3.new.scopes.items
    c.in_ok-named.named c.in_ok-inside.inside two three in
    let all = opened-more before outer (listed field) (listed name ++ listed kind) c.open.new.scopes.items c.open-3.new.scopes.items
    c.in_ok-stands.stands c.in_ok-inside.inside one own in
    let long : length before ≡ first_scope rows node = ap length c.requires.scopes ∙ length-scopes rows node in
    let is_field : field ≡ if_opened (is_field_value rows node) Field =
    c.if_opened-field.ensures ∙ ap (λ is. if_opened is Field) c.is_field_value.ensures in
    let is_name : name ≡ if_opened (knows_its_name rows node) Name =
    c.if_opened-name.ensures ∙ ap (λ is. if_opened is Name) c.knows_its_name.ensures in
    let kinds : listed field ++ (listed name ++ listed kind) ≡ opened rows node =
    ap (λ f. listed f ++ (listed name ++ listed kind)) is_field
    ∙ ap (λ n. listed (if_opened (is_field_value rows node) Field) ++ (listed n ++ listed kind)) is_name
    ∙ ap (λ k. listed (if_opened (is_field_value rows node) Field) ++ (listed (if_opened (knows_its_name rows node) Name) ++ listed k)) c.kind_scope.ensures in
    let own_number : c.in_ok-own.own ≡ length c.open.new.scopes.items = omega (arith, c.in_ok-own.ensures, c.len.ensures) in
    record {
      scopes = all.scopes
          ∙ ap (λ o. before ++ nested o (length before) (listed field ++ (listed name ++ listed kind))) c.around-around.ensures
          ∙ ap (λ n. before ++ nested (around rows node) n (listed field ++ (listed name ++ listed kind))) long
          ∙ ap (λ ks. before ++ nested (around rows node) (first_scope rows node) ks) kinds
          ∙ ap (λ l. l ++ scopes_at rows node) c.requires.scopes
          ∙ sym (flat_map-more (scopes_at rows) node);
      owns = filled-more (own_scope rows) node c.args.places.now.owns.items c.push.new.self.items c.in_ok-own.own
          c.requires.owns c.in_ok-push.ensures.items
          (own_number ∙ opened-length before outer (listed field) c.open.new.scopes.items c.in_ok-stands.stands one
          ∙ ap (λ n. n + length (listed field)) long
          ∙ ap (λ f. first_scope rows node + length (listed f)) is_field);
      stands = filled-more (stands rows) node c.args.places.now.stands.items c.push-2.new.self.items c.in_ok-stands.stands
          c.requires.stands c.in_ok-push-2.ensures.items
          (one.inside ∙ ap (λ o. innermost o (length before) (listed field)) c.around-around.ensures
          ∙ ap (λ n. innermost (around rows node) n (listed field)) long
          ∙ ap (λ f. innermost (around rows node) (first_scope rows node) (listed f)) is_field
          ∙ stands-opened rows node);
      inside = filled-more (inside rows) node c.args.places.now.inside.items c.push-3.new.self.items c.in_ok-inside.inside
          c.requires.inside c.in_ok-push-3.ensures.items
          (all.inside ∙ ap (λ o. innermost o (length before) (listed field ++ (listed name ++ listed kind))) c.around-around.ensures
          ∙ ap (λ n. innermost (around rows node) n (listed field ++ (listed name ++ listed kind))) long
          ∙ ap (innermost (around rows node) (first_scope rows node)) kinds);
    }
