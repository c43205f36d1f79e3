-- A filter is as true of whole members under a guard as in the world that is cut.
use Rattle.std.proofs.Common.{◌≡◌, ℕ, true, ◌&&◌, List, [], ◌∷◌, map, refl, sym, ap, ◌∙◌}
use Rattle.std.specs.Prelude.{Option, Some, None, find, option_map}
use Rattle.std.specs.Option.{option_map_or}
use Rattle.std.specs.Str.{bytes_eq}
use Rattle.pocket_types.specs.World.{shelf_named}
use Rattle.pocket_types.specs.declared.names.Name.{Name}
use Rattle.pocket_types.specs.declared.records.Cell.{Cell}
use Rattle.pocket_types.specs.declared.records.Field.{Field}
use Rattle.pocket_types.specs.declared.records.Rec.{Rec}
use Rattle.pocket_types.specs.declared.requests.Ask.{Ask}
use Rattle.pocket_types.specs.declared.resolved.Leaf.{Leaf}
use Rattle.pocket_types.specs.declared.resolved.Leaf.TheVariants as leaf
use Rattle.pocket_types.specs.declared.resolved.Modifier.{Modifier}
use Rattle.pocket_types.specs.declared.resolved.Modifier.TheVariants as modifier
use Rattle.pocket_types.specs.declared.resolved.Prefix.{Prefix}
use Rattle.pocket_types.specs.declared.resolved.Resolved.{Resolved}
use Rattle.pocket_types.specs.declared.resolved.Root.{Root}
use Rattle.pocket_types.specs.declared.resolved.Root.TheVariants as root
use Rattle.pocket_types.specs.declared.resolved.Step.{Step}
use Rattle.pocket_types.specs.declared.resolved.Step.TheVariants as step
use Rattle.pocket_types.specs.declared.values.Value.TheVariants as value
use Rattle.pocket_types.specs.declared.world.Shelf.{Shelf}
use Rattle.pocket_types.specs.declared.world.World.{World}
use Rattle.pocket_ops.specs.Cells.{items_of}
use Rattle.pocket_ops.specs.DateReading.{◌>>=◌}
use Rattle.pocket_meaning.specs.Carrying.{Carries}
use Rattle.pocket_meaning.specs.Choices.{last_step, seen_from}
use Rattle.pocket_meaning.specs.Laws.{TruthIsCarried}
use Rattle.pocket_meaning.specs.Meaning.{holds, true_in}
use Rattle.pocket_meaning.specs.Members.{Member}
use Rattle.pocket_meaning.specs.Members as member
use Rattle.pocket_meaning.specs.Related.{sent_field, sent_for, held, root_list, step_list}
use Rattle.pocket_meaning.specs.Sights.{Sight, sight, sent_value, value_of}
use Rattle.pocket_meaning.specs.Values.{modified, member_value, item_value, value_among}
use Rattle.pocket_plan.specs.Cutting.{is_open, open_rec, open_shelf, open_world, admitted_shelf, admitted_world, guarded_world}
use Rattle.pocket_plan.specs.Guarding.{open_field_at, open_sent_field, open_step_list, open_value, guarded_sight}
use Rattle.pocket_plan.specs.Truth.{open_home, plan_truth}
use Rattle.pocket_plan.specs.declared.guard.Guard.{Guard}
use Rattle.pocket_plan.proofs.Filtered.{find_in_filter}
use Rattle.pocket_plan.proofs.Opening.{opened, field_open, shelf_mapped, shelf_open, held_open, holders_open, records_open, caller_open}

items_opened : (ts : List (List ℕ)) → map member.Item ts ≡ map opened (map member.Item ts)
items_opened [] = refl
items_opened (t ∷ ts) = ap (λ l. member.Item t ∷ l) (items_opened ts)

-- what a field leads to, where it is there
led : (f g : Field × Cell → List Member) → ((x : Field × Cell) → f x ≡ map opened (g x)) → (o : Option (Field × Cell)) → option_map_or f o [] ≡ map opened (option_map_or g o [])
led f g same None = refl
led f g same (Some x) = same x

step_opened : (w : World) (s t : Name → Option (Field × Cell)) → ((n : Name) → t n ≡ s n) → (p : Step) (m : Member) → step_list (open_world w) t p (opened m) ≡ map opened (open_step_list w s p m)
step_opened w s t same (step.Forward f) (member.Record c r) = ap (λ o. option_map_or (held (open_world w)) o []) (field_open c r f) ∙ led (held (open_world w)) (held w) (held_open w) (open_field_at c r f)
step_opened w s t same (step.Forward f) member.Sent = ap (λ o. option_map_or (held (open_world w)) o []) (same f) ∙ led (held (open_world w)) (held w) (held_open w) (s f)
step_opened w s t same (step.Forward f) member.Nobody = refl
step_opened w s t same (step.Forward f) (member.Item x) = refl
step_opened w s t same (step.Back from f) (member.Record c r) = holders_open w from f c r
step_opened w s t same (step.Back from f) member.Sent = refl
step_opened w s t same (step.Back from f) member.Nobody = refl
step_opened w s t same (step.Back from f) (member.Item x) = refl
step_opened w s t same (step.Item f) (member.Record c r) = ap (λ o. option_map_or (λ x. map member.Item (items_of x.1)) o []) (field_open c r f) ∙ led (λ x. map member.Item (items_of x.1)) (λ x. map member.Item (items_of x.1)) (λ x. items_opened (items_of x.1)) (open_field_at c r f)
step_opened w s t same (step.Item f) member.Sent = ap (λ o. option_map_or (λ x. map member.Item (items_of x.1)) o []) (same f) ∙ led (λ x. map member.Item (items_of x.1)) (λ x. map member.Item (items_of x.1)) (λ x. items_opened (items_of x.1)) (s f)
step_opened w s t same (step.Item f) member.Nobody = refl
step_opened w s t same (step.Item f) (member.Item x) = refl

module _ (w : World) (g : Guard) (ask : Ask) (home : Name) (r : Rec) where
  -- the shelf of a name, of which the guard leaves the admitted records without hidden fields
  left_shelf : (name : Name) → shelf_named name (open_world (admitted_world w g ask)).shelves ≡ option_map open_shelf (option_map (admitted_shelf w g ask) (shelf_named name w.shelves))
  left_shelf name = shelf_open (admitted_world w g ask) name ∙ ap (option_map open_shelf) (shelf_mapped (admitted_shelf w g ask) (λ s. refl) name w.shelves)

  sent_opened : (n : Name) → sent_field (open_world (admitted_world w g ask)) home ask.body n ≡ open_sent_field w home ask.body n
  sent_opened n =
      let found : Option Field → Option (Field × Cell) = λ o. o >>= λ f. sent_for ask.body n >>= λ x. Some (f, x.cell) in
      let cut : Option Shelf → Option (Field × Cell) = λ o. o >>= λ s. found (find (λ f. bytes_eq f.name n) s.collection.fields) in
      let whole : Option Shelf → Option (Field × Cell) = λ o. o >>= λ s. found (find (λ f. is_open f && bytes_eq f.name n) s.collection.fields) in
      let by : (o : Option Shelf) → cut (option_map open_shelf (option_map (admitted_shelf w g ask) o)) ≡ whole o =
      λ o. elim o as (λ o. cut (option_map open_shelf (option_map (admitted_shelf w g ask) o)) ≡ whole o) [ None ↦ refl | Some s ↦ ap found (find_in_filter (λ (f : Field). bytes_eq f.name n) is_open s.collection.fields) ] in
      ap cut (left_shelf home) ∙ by (shelf_named home w.shelves)

  home_opened : option_map_or (λ s. member.Record s.collection (open_home w home r) ∷ []) (shelf_named home (open_world (admitted_world w g ask)).shelves) [] ≡ map opened (option_map_or (λ s. member.Record s.collection r ∷ []) (shelf_named home (admitted_world w g ask).shelves) [])
  home_opened =
      let cut : Option Shelf → Option Shelf → List Member = λ o p. option_map_or (λ s. member.Record s.collection (option_map_or (λ s. open_rec s.collection r) p r) ∷ []) o [] in
      let whole : Option Shelf → List Member = λ o. map opened (option_map_or (λ s. member.Record s.collection r ∷ []) o []) in
      let by : (o : Option Shelf) → cut (option_map open_shelf (option_map (admitted_shelf w g ask) o)) o ≡ whole (option_map (admitted_shelf w g ask) o) =
      λ o. elim o as (λ o. cut (option_map open_shelf (option_map (admitted_shelf w g ask) o)) o ≡ whole (option_map (admitted_shelf w g ask) o)) [ None ↦ refl | Some s ↦ refl ] in
      ap (λ o. cut o (shelf_named home w.shelves)) (left_shelf home) ∙ by (shelf_named home w.shelves) ∙ ap whole (sym (shelf_mapped (admitted_shelf w g ask) (λ s. refl) home w.shelves))

  look_opened : (name : Name) → option_map_or (λ s. map (member.Record s.collection) s.recs) (shelf_named name (open_world (admitted_world w g ask)).shelves) [] ≡ map opened (option_map_or (λ s. map (member.Record s.collection) s.recs) (shelf_named name (admitted_world w g ask).shelves) [])
  look_opened name =
      let all : Option Shelf → List Member = λ o. option_map_or (λ s. map (member.Record s.collection) s.recs) o [] in
      let by : (o : Option Shelf) → all (option_map open_shelf o) ≡ map opened (all o) =
      λ o. elim o as (λ o. all (option_map open_shelf o) ≡ map opened (all o)) [ None ↦ refl | Some s ↦ records_open s.collection s.recs ] in
      ap all (shelf_open (admitted_world w g ask) name) ∙ by (shelf_named name (admitted_world w g ask).shelves)

  root_opened : (p : Root) → root_list (open_world (admitted_world w g ask)) ask home (open_home w home r) p ≡ map opened (root_list (admitted_world w g ask) ask home r p)
  root_opened root.Home = home_opened
  root_opened root.Auth = caller_open (admitted_world w g ask) ask.caller
  root_opened root.Body = refl
  root_opened (root.Look name alias) = look_opened name

  -- what is seen of the world that is cut
  abbrev cut_sight : Sight
  cut_sight = sight (open_world (admitted_world w g ask)) ask home (open_home w home r)

  abbrev whole_sight : Sight
  whole_sight = guarded_sight w g ask home r

  list_opened : (p : Root) (m : Member) (o : Option Step) → seen_from cut_sight p (opened m) o ≡ map opened (seen_from whole_sight p m o)
  list_opened p m None = root_opened p
  list_opened p m (Some t) = step_opened (admitted_world w g ask) (open_sent_field w home ask.body) (sent_field (open_world (admitted_world w g ask)) home ask.body) sent_opened t m

  member_opened : (m : Member) (n : Name) (o : Modifier) → member_value (opened m) n o ≡ open_value m n o
  member_opened (member.Record c x) n o = ap (λ f. value_among c x n f o) (field_open c x n)
  member_opened member.Nobody n o = refl
  member_opened (member.Item t) n o = refl
  member_opened member.Sent n o = refl

  item_opened : (m : Member) → item_value (opened m) ≡ item_value m
  item_opened (member.Record c x) = refl
  item_opened member.Nobody = refl
  item_opened (member.Item t) = refl
  item_opened member.Sent = refl

  sent_value_opened : (n : Name) (o : Modifier) → sent_value cut_sight n o ≡ sent_value whole_sight n o
  sent_value_opened n modifier.Isset = refl
  sent_value_opened n modifier.Plain = ap (λ f. option_map_or (modified modifier.Plain) f value.Nothing) (sent_opened n)
  sent_value_opened n modifier.Length = ap (λ f. option_map_or (modified modifier.Length) f value.Nothing) (sent_opened n)
  sent_value_opened n modifier.Lower = ap (λ f. option_map_or (modified modifier.Lower) f value.Nothing) (sent_opened n)

  value_opened : (l : Leaf) (c : Prefix → Member) → value_of cut_sight (λ p. opened (c p)) l ≡ value_of whole_sight c l
  value_opened (leaf.Fixed v) c = refl
  value_opened (leaf.Of p n o) c = member_opened (c p) n o
  value_opened (leaf.ItemOf p) c = item_opened (c p)
  value_opened leaf.Context c = refl
  value_opened leaf.Method c = refl
  value_opened (leaf.Header n o) c = refl
  value_opened (leaf.Query n o) c = refl
  value_opened (leaf.Body n o) c = sent_value_opened n o
  value_opened (leaf.Macro m) c = refl

  carries : (f : Resolved) → Carries whole_sight cut_sight opened (λ p m. true) f
  carries f = record {
    nobody = refl;
    nobody_fits = λ p. refl;
    lists = λ p m named fit. list_opened p.root m (last_step p);
    members_fit = λ p m x named fit found. refl;
    values = λ l c side fit. value_opened l c;
  }

  pub guarded_truth : TruthIsCarried → (f : Resolved) → true_in whole_sight f ≡ plan_truth w (Some g) ask home r f
  unfolding holds guarded_world
  guarded_truth carried f = sym (carried whole_sight cut_sight opened (λ p m. true) f (carries f))
