-- Members are searched, and what they define has a number.
use Rattle.merge_dl.proofs.Called.{members_searched, members_searched_soon, defined_numbered}
use Rattle.merge_dl.proofs.members_are_searched.Goals as goal

pub returns-clause-searches : goal.returns-clause-searches
returns-clause-searches c = members_searched c.searches_find.ensures.any

pub returns-clause-soon : goal.returns-clause-soon
returns-clause-soon c = members_searched_soon c.searches_find.ensures.soon c.exports_are_texts.ensures.texts c.exports_are_texts.ensures.apart

pub returns-clause-numbers : goal.returns-clause-numbers
returns-clause-numbers c = defined_numbered
