-- Relations, found by look-ups in the whole world.
use Rattle.std.proofs.Common.{◌≡◌, Bool, List, map, sym, ap, ◌∙◌, Some, None}
use Rattle.std.specs.Prelude.{filter_map, option_and_then, option_map}
use Rattle.pocket_types.specs.Callers.{is_admin}
use Rattle.pocket_types.specs.Kinds.{is_multiple, target_of}
use Rattle.pocket_types.specs.declared.names.Name.{Name}
use Rattle.pocket_types.specs.declared.records.Cell.{Cell}
use Rattle.pocket_types.specs.declared.records.Collection.{Collection}
use Rattle.pocket_types.specs.declared.records.Field.{Field}
use Rattle.pocket_types.specs.declared.records.Rec.{Rec}
use Rattle.pocket_types.specs.declared.requests.Caller.{Caller}
use Rattle.pocket_types.specs.declared.world.World.{World}
use Rattle.pocket_meaning.specs.Members.{Member}
use Rattle.pocket_ops.specs.Fields.{ids_of}
use Rattle.pocket_meaning.specs.Related.{held}
use Rattle.pocket_meaning.specs.declared.members.Member as lent
use Rattle.pocket_gate.specs.Shown.{field_shown, member_at}
use Rattle.pocket_gate.proofs.ShownLemmas.{held_named}
use Rattle.pocket_expand.specs.Expansion.{Related, of_relation, related_by, shown_collection, shown_rec}
use Rattle.pocket_expand.specs.Met.{member_seen}
use Rattle.pocket_expand.specs.declared.names.Lead.TheVariants as lead
use Rattle.pocket_expand.proofs.FieldLemmas.{field_as_shown}

abbrev pub related_of : Bool → List Member → Related
related_of several members = record { several = several; members = members }

-- what was found of a relation
pub relation_found : (seen : World) (whole : Bool) (f : Field) (cell : Cell) (target : Name) (found : List lent.Member) → target_of f.kind ≡ Some target
    → map (member_seen whole) found ≡ filter_map (member_at seen target) (ids_of cell)
    → Some (related_of (is_multiple f.kind) (map (member_seen whole) found)) ≡ of_relation seen (f, cell)
relation_found seen whole f cell target found e is =
    ap (λ m. Some (related_of (is_multiple f.kind) m)) (is ∙ sym (held_named seen f cell target e))
    ∙ sym (ap (option_map (λ t. related_of (is_multiple f.kind) (held seen (f, cell)))) e)

-- a field that is no relation
pub no_relation : (seen : World) (f : Field) (cell : Cell) → target_of f.kind ≡ None → None ≡ of_relation seen (f, cell)
no_relation seen f cell e = sym (ap (option_map (λ t. related_of (is_multiple f.kind) (held seen (f, cell)))) e)

-- what a name leads to over a field of a record as it is seen
pub forward_is : (seen : World) (who : Caller) (c : Collection) (r : Rec) (name : Name)
    → related_by seen (shown_collection who c) (shown_rec who c r) (lead.Forward name) ≡ option_and_then (of_relation seen) (field_shown (is_admin who) c r name)
forward_is seen who c r name = ap (option_and_then (of_relation seen)) (field_as_shown who c r name)
