mod FewPosts
