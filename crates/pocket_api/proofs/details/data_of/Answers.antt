use Rattle.pocket_api.proofs.details.data_of.Goals as goal

pub returns-in-TooManyTopics : goal.returns-in-TooManyTopics
returns-in-TooManyTopics c = rw c.in-TooManyTopics.is c.says_word-in-TooManyTopics.ensures

pub returns-in-BadTopic : goal.returns-in-BadTopic
returns-in-BadTopic c = rw c.in-BadTopic.is c.says_number-in-BadTopic.ensures
