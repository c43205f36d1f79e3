use Rattle.std.proofs.Common.{map}
use Rattle.std.specs.String.{string_bytes}
use Rattle.clap.specs.Matches.{found_of}
use Rattle.clap.specs.Walk.{rows_of}
use Rattle.pocket_words.proofs.ClapReads.{serve_given}
use Rattle.pocket_words.proofs.reading.read_serve.Goals as goal

pub returns-in-Ok : goal.returns-in-Ok
returns-in-Ok c = serve_given (map string_bytes c.args.words.now) c.requires (rows_of (found_of c.in-Ok.found)) c.in-Ok.ensures.found
    _ _ _ _ _ c.value_of-admin.ensures c.value_of-port.ensures c.value_of-workers.ensures c.value_of-connections.ensures c.value_of-store.ensures c.serve_with.result c.serve_with.ensures
