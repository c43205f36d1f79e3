use Rattle.std.proofs.Common.{map, sym, subst}
use Rattle.std.specs.List.{AllZip}
use Rattle.pocket_tables.specs.Worlds.{Suits, shape_of}
use Rattle.pocket_check.specs.Bodies.{with_sent}
use Rattle.pocket_check.proofs.SentLemmas.{sent_almost, shape_almost}
use Rattle.pocket_check.proofs.laws.sent_cells_have_shape.Goals as goal

pub returns : goal.returns
returns c = λ who k old body fields r is.
    subst (AllZip Suits (map shape_of k.fields)) (sym is.cells)
    (shape_almost k.fields (with_sent fields k old) (sent_almost who k old body fields is.sound is.old_fit is.profile is.read))
