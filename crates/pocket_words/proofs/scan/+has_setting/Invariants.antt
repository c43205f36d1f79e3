use Rattle.std.proofs.Common.{length}
use Rattle.pocket_words.proofs.scan.+has_setting.Given as goal

abbrev pub decreases-has_setting : goal.decreases-has_setting
decreases-has_setting l = length l.settings.now
