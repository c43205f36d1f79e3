use Rattle.std.proofs.Common.{map}
use Rattle.std.specs.String.{string_bytes}
use Rattle.clap.specs.Matches.{found_of}
use Rattle.clap.specs.Walk.{rows_of}
use Rattle.pocket_words.proofs.ClapReads.{pipe_given}
use Rattle.pocket_words.proofs.reading.read_pipe.Goals as goal

pub returns-in-Ok : goal.returns-in-Ok
returns-in-Ok c = pipe_given (map string_bytes c.args.words.now) c.requires (rows_of (found_of c.in-Ok.found)) c.in-Ok.ensures.found
    c.has_flag-sample.result c.has_flag-sample.ensures.yes c.has_flag-sample.ensures.no _ _ c.value_of-admin.ensures c.value_of-store.ensures c.pipe_with.result c.pipe_with.ensures
