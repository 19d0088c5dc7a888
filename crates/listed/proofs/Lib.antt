mod OnList
