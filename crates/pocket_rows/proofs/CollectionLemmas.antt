-- The collection that a row may keep.
use Rattle.std.proofs.Common.{◌≡◌, ◌≢◌, ℕ, Bool, true, false, List, [], ◌++◌, codes, map, Option, Some, None, IsTrue, MatchOption, refl, sym, ap, subst, ◌∙◌, arith}
use Rattle.std.specs.Str.{bytes_eq}
use Rattle.std.proofs.lemmas.List.{append_cancel_left}
use Rattle.pocket_types.specs.Maps.{member_of}
use Rattle.pocket_types.specs.Names.{is_name}
use Rattle.pocket_types.specs.declared.json.Jv.{Jv}
use Rattle.pocket_types.specs.declared.json.Jv.TheOpen as jv
use Rattle.pocket_types.specs.declared.json.Jv.TheFolds.{fold-roll-Jv}
use Rattle.pocket_types.specs.declared.json.Member.{Member}
use Rattle.pocket_types.specs.declared.records.Collection.{Collection}
use Rattle.pocket_types.specs.declared.records.Rule.{Rule}
use Rattle.pocket_types.specs.declared.records.Rule.TheVariants as rule
use Rattle.pocket_types.specs.Profile.{rising_step, rising_member, small_step, small_member, levels_step, levels_member, IsProfiled}
use Rattle.pocket_json.specs.Reading.{read}
use Rattle.pocket_json.proofs.Profiles.{Fine, fine_map}
use Rattle.pocket_json.proofs.RoundTrips.{read_printed}
use Rattle.pocket_ops.specs.Trees.{null_jv, text_jv, list_jv, field_jv, rule_jv, type_text, collection_members, collection_jv}
use Rattle.pocket_keeper.specs.Texts.{collection_row}
use Rattle.pocket_keeper.specs.declared.rows.KeptRow.{KeptRow}
use Rattle.pocket_rows.proofs.EntryLemmas.{among_is}
use Rattle.pocket_rows.proofs.FieldLemmas.{fields_once}
use Rattle.pocket_rows.proofs.Utf8Lemmas.{collection_utf8}
use Rattle.pocket_rows.proofs.FieldTrees.{fields_fine}
use Rattle.pocket_rows.proofs.ProfileLemmas.{text_fine}
use Rattle.pocket_rows.proofs.TreeForms.{same_layer, text_once, map_once}
use Rattle.pocket_rows.specs.Cells.{value_under, IsNoMap, MayBeMap}
use Rattle.pocket_rows.specs.CollectionReading.{AreFields}
use Rattle.pocket_rows.specs.CollectionRows.{AreWritten, HasNoRules, HasRules, ReadsFieldsUnder, rules_of, IsCollectionUnder, HasNoCollection, MayHaveCollection, MayKeepCollection}
use Rattle.pocket_rows.specs.RowReading.{KeepsNoCollection}
use Rattle.pocket_types.specs.Sound.{IsWritten, IsSoundCollection}
use Rattle.pocket_rows.specs.declared.rules.Rules.{Rules}

-- ---- what is printed the same is the same

null_text : (t : List ℕ) → null_jv ≢ text_jv t
null_text t e = let l = same_layer jv.Null (jv.Text t) e in cc

pub rule_once : (a b : Rule) → IsWritten a → IsWritten b → rule_jv a ≡ rule_jv b → a ≡ b
rule_once rule.Locked rule.Locked h k e = refl
rule_once rule.Locked rule.Free h k e = absurd (null_text [] e)
rule_once rule.Locked (rule.Filter t) h k e = absurd (null_text t e)
rule_once rule.Free rule.Locked h k e = absurd (null_text [] (sym e))
rule_once rule.Free rule.Free h k e = refl
rule_once rule.Free (rule.Filter t) h k e = absurd (k.1 (text_once t [] (sym e)))
rule_once (rule.Filter t) rule.Locked h k e = absurd (null_text t (sym e))
rule_once (rule.Filter t) rule.Free h k e = absurd (h.1 (text_once t [] e))
rule_once (rule.Filter t) (rule.Filter s) h k e = ap (λ x. rule.Filter x) (text_once t s e)

type_once : (a b : Bool) → type_text a ≡ type_text b → a ≡ b
type_once true true e = refl
type_once false false e = refl
type_once true false e = ap (λ t. bytes_eq t (codes "auth")) e
type_once false true e = ap (λ t. bytes_eq t (codes "auth")) e

-- one value stands under a key
one_under : (key : List ℕ) (ms : List Member) (a b : Jv) → value_under key ms ≡ Some a → value_under key ms ≡ Some b → a ≡ b
one_under key ms a b e q = let same : Some a ≡ Some b = sym e ∙ q in cc

written_of : (c : Collection) → IsSoundCollection c → AreWritten (rules_of c)
written_of c sound =
    record { list = sound.list_rule; view = sound.view_rule; create = sound.create_rule; update = sound.update_rule; delete = sound.delete_rule }

fields_of : (c : Collection) → IsSoundCollection c → AreFields c.fields
fields_of c sound = record { sound = sound.fields; differ = sound.differ }

rule_under_once : (key : List ℕ) (ms : List Member) (a b : Rule) → IsWritten a → IsWritten b → value_under key ms ≡ Some (rule_jv a) → value_under key ms ≡ Some (rule_jv b) → a ≡ b
rule_under_once key ms a b h k e q = rule_once a b h k (one_under key ms (rule_jv a) (rule_jv b) e q)

rules_once : (ms : List Member) (r s : Rules) → HasRules ms r → HasRules ms s → r ≡ s
rules_once ms r s h k =
    let list = rule_under_once (codes "listRule") ms r.list s.list h.written.list k.written.list h.under.list k.under.list in
    let view = rule_under_once (codes "viewRule") ms r.view s.view h.written.view k.written.view h.under.view k.under.view in
    let create = rule_under_once (codes "createRule") ms r.create s.create h.written.create k.written.create h.under.create k.under.create in
    let update = rule_under_once (codes "updateRule") ms r.update s.update h.written.update k.written.update h.under.update k.under.update in
    let delete = rule_under_once (codes "deleteRule") ms r.delete s.delete h.written.delete k.written.delete h.under.delete k.under.delete in
    λ i. record { list = list i; view = view i; create = create i; update = update i; delete = delete i }

type_under_once : (ms : List Member) (a b : Bool) → value_under (codes "type") ms ≡ Some (text_jv (type_text a)) → value_under (codes "type") ms ≡ Some (text_jv (type_text b)) → a ≡ b
type_under_once ms a b e q = type_once a b (text_once (type_text a) (type_text b) (one_under (codes "type") ms (text_jv (type_text a)) (text_jv (type_text b)) e q))

same_collection : (c d : Collection) → c.name ≡ d.name → c.is_auth ≡ d.is_auth → c.fields ≡ d.fields → rules_of c ≡ rules_of d → c ≡ d
same_collection c d name kind fields rules = λ i. record {
  name = name i;
  is_auth = kind i;
  fields = fields i;
  list_rule = (rules i).list;
  view_rule = (rules i).view;
  create_rule = (rules i).create;
  update_rule = (rules i).update;
  delete_rule = (rules i).delete;
}

-- ---- a collection's members

collection_under : (c : Collection) → IsCollectionUnder c (map member_of (collection_members c))
collection_under c =
    let es = collection_members c in
    record {
      fields = among_is (codes "fields") es;
      kind = among_is (codes "type") es;
      rules = record {
        list = among_is (codes "listRule") es;
        view = among_is (codes "viewRule") es;
        create = among_is (codes "createRule") es;
        update = among_is (codes "updateRule") es;
        delete = among_is (codes "deleteRule") es;
      };
    }

-- ---- a collection's tree is as it is read

null_fine : Fine 31 null_jv
null_fine =
    (fold-roll-Jv Bool (List ℕ × Bool) rising_step rising_member jv.Null, fold-roll-Jv Bool Bool small_step small_member jv.Null, omega (arith, fold-roll-Jv ℕ ℕ levels_step levels_member jv.Null))

rule_fine : (r : Rule) → Fine 31 (rule_jv r)
rule_fine rule.Locked = null_fine
rule_fine rule.Free = text_fine []
rule_fine (rule.Filter t) = text_fine t

pub collection_profiled : (c : Collection) → IsSoundCollection c → IsProfiled (collection_jv c)
collection_profiled c sound =
    let fine = fine_map 31 (collection_members c)
    (rule_fine c.create_rule, (rule_fine c.delete_rule, (fields_fine c.fields sound.fields, (rule_fine c.list_rule, (text_fine c.name, (text_fine (type_text c.is_auth), (rule_fine c.update_rule, (rule_fine c.view_rule, tt)))))))) refl in
    record { keys = fine.0; numbers = fine.1; texts = collection_utf8 c sound; depth = omega (arith, fine.2) }

-- ---- one row, one collection

tree_once : (c d : Collection) → IsSoundCollection c → IsSoundCollection d → collection_row c ≡ collection_row d → collection_jv c ≡ collection_jv d
tree_once c d h k e =
    let twice : Some (collection_jv c) ≡ Some (collection_jv d) = sym (read_printed (collection_jv c) (collection_profiled c h)) ∙ ap (λ row. read row.value) e ∙ read_printed (collection_jv d) (collection_profiled d k) in
    cc

under_once : (ms : List Member) (c d : Collection) → IsSoundCollection c → IsSoundCollection d → c.name ≡ d.name → IsCollectionUnder c ms → IsCollectionUnder d ms → c ≡ d
under_once ms c d h k name a b =
    let kind = type_under_once ms c.is_auth d.is_auth a.kind b.kind in
    let trees = one_under (codes "fields") ms (list_jv (map field_jv c.fields)) (list_jv (map field_jv d.fields)) a.fields b.fields in
    let fields = fields_once c.fields d.fields (fields_of c h) (fields_of d k) trees in
    let rules = rules_once ms (rules_of c) (rules_of d) (record { written = written_of c h; under = a.rules }) (record { written = written_of d k; under = b.rules }) in
    same_collection c d name kind fields rules

pub collection_once : (c d : Collection) → IsSoundCollection c → IsSoundCollection d → collection_row c ≡ collection_row d → c ≡ d
collection_once c d h k e =
    let members : map member_of (collection_members c) ≡ map member_of (collection_members d) = map_once _ _ (tree_once c d h k e) in
    let name : c.name ≡ d.name = append_cancel_left (codes "c/") c.name d.name (ap (λ row. row.key) e) in
    under_once (map member_of (collection_members c)) c d h k name (collection_under c) (subst (IsCollectionUnder d) (sym members) (collection_under d))

-- ---- the collection of members

pub no_collection-rules : (ms : List Member) → HasNoRules ms → HasNoCollection ms
no_collection-rules ms none c sound under = none (rules_of c) under.rules

pub collection_is : (ms : List Member) (c : Collection) → IsTrue (is_name c.name) → value_under (codes "type") ms ≡ Some (text_jv (type_text c.is_auth)) → ReadsFieldsUnder ms (Some c.fields) → HasRules ms (rules_of c)
    → MayHaveCollection c.name ms c
collection_is ms c name kind fields rules = record {
  sound = record {
    name = name;
    fields = fields.are.sound;
    differ = fields.are.differ;
    list_rule = rules.written.list;
    view_rule = rules.written.view;
    create_rule = rules.written.create;
    update_rule = rules.written.update;
    delete_rule = rules.written.delete;
  };
  only = λ d sound same under.
      let found : Some c.fields ≡ Some d.fields = fields.back d.fields (fields_of d sound) under.fields in
      let own : d.fields ≡ c.fields = cc in
      let kinds = type_under_once ms d.is_auth c.is_auth under.kind kind in
      same_collection d c same kinds own (rules_once ms (rules_of d) (rules_of c) (record { written = written_of d sound; under = under.rules }) rules);
}

-- ---- the collection of a row

pub no_collection-map : (row : KeptRow) (value : List ℕ) → value ≡ row.value → IsNoMap value → KeepsNoCollection row
no_collection-map row value ev none c sound e = none (collection_members c) (collection_profiled c sound) (ev ∙ ap (λ x. x.value) e)

there_under : (row : KeptRow) (value : List ℕ) (ms : List Member) → value ≡ row.value → MayBeMap value ms → (c : Collection) → IsSoundCollection c → row ≡ collection_row c → IsCollectionUnder c ms
there_under row value ms ev is c sound e =
    subst (IsCollectionUnder c) (sym (is.only (collection_members c) (collection_profiled c sound) (ev ∙ ap (λ x. x.value) e))) (collection_under c)

abbrev pub CollectionFound : List ℕ → List Member → Option Collection → Type 0
CollectionFound name ms found = MatchOption found (HasNoCollection ms) (λ c. MayHaveCollection name ms c)

abbrev pub CollectionMayKeep : KeptRow → Option Collection → Type 0
CollectionMayKeep row found = MatchOption found (KeepsNoCollection row) (λ c. MayKeepCollection row c)

pub collection_read : (row : KeptRow) (key name value : List ℕ) (ms : List Member) → key ≡ row.key → key ≡ codes "c/" ++ name → value ≡ row.value → MayBeMap value ms
    → (r : Option Collection) → CollectionFound name ms r → CollectionMayKeep row r
collection_read row key name value ms ek en ev is None none = λ c sound e. none c sound (there_under row value ms ev is c sound e)
collection_read row key name value ms ek en ev is (Some c) may = record {
  sound = may.sound;
  only = λ d sound e.
      let names : d.name ≡ name = append_cancel_left (codes "c/") d.name name (sym (ap (λ x. x.key) e) ∙ sym ek ∙ en) in
      may.only d sound names (there_under row value ms ev is d sound e);
}
